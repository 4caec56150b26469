-- The engine's times of one activity, read at the nodes of the completed activity.
use Rattle.std.specs.Prelude.{◌≡◌, refl, ◌⊎◌, List, [], ◌∷◌, ℕ, suc, ◌+◌, ◌≤◌, ◌<◌, max, length}
use Rattle.std.proofs.Common.{sym, ap, ◌∙◌, subst, inl, inr, arith}
use Rattle.std.proofs.Math.Decide.{dec_le}
use Rattle.basis.specs.Lists.{Among, one, more}
use Rattle.plan.specs.declared.Kind.{Kind}
use Rattle.plan.specs.declared.Kind.TheVariants.{Action, Claim, Release, Event}
use Rattle.plan.specs.declared.Node.{Node}
use Rattle.plan.specs.Limits.{Brief}
use Rattle.plan.specs.Plan.{predecessors}
use Rattle.activity.specs.Rules.{node, Arrow}
use Rattle.times_combined.specs.Word.{Step}
use Rattle.times_combined.proofs.Laws.Accepted.{Good}
use Rattle.times_combined.specs.Combined.{Ident, named, claimed, NotClaim, Graph, Nodes, Arrows, completed}
use Rattle.times_combined.proofs.Laws.Engine.{Trace, Stepped, latest, held, start_at, end_at}
use Rattle.times_combined.proofs.Laws.Shape.{not_claim, claim_release, claim_same}
use Rattle.times_combined.proofs.Laws.Joining.{Reached, Fresh}
use Rattle.activity.specs.Rules as Rules

pub latest_bound : (C : ℕ → ℕ) (m : ℕ) (ms : List ℕ) → Among m ms → C m ≤ latest C ms
latest_bound C m [] h = absurd h
latest_bound C m (k ∷ ms) (inl e) = let u = ap C e in omega arith
latest_bound C m (k ∷ ms) (inr h) = let u = latest_bound C m ms h in omega arith

-- v is 0, or the completion of one of ms
abbrev pub OneOf : (ℕ → ℕ) → List ℕ → ℕ → Type 0
OneOf C ms v = (v ≡ 0) ⊎ ((m : ℕ) × Among m ms × (C m ≡ v))

pub latest_reached : (C : ℕ → ℕ) (ms : List ℕ) → OneOf C ms (latest C ms)
latest_reached C [] = inl refl
latest_reached C (k ∷ ms) = go (dec_le (latest C ms) (C k)) (latest_reached C ms)
  where
    go : Dec (latest C ms ≤ C k) → OneOf C ms (latest C ms) → OneOf C (k ∷ ms) (max (C k) (latest C ms))
    go (yes l) o = inr (k, inl refl, omega arith)
    go (no l) (inl z) = absurd (omega arith)
    go (no l) (inr i) = inr (i.0, inr i.1, (let u = i.2 in omega arith))

last_arrow : (a : List Node) (m n : ℕ) → Rules.Before a m n → (k : ℕ) × Arrow a k n
last_arrow a m n (one h) = (m, h)
last_arrow a m n (more {k} c h) = (k, h)

-- a node that is no claim has a predecessor
pub some_arrow : (R : ℕ) (belongs : ℕ → ℕ) (a : List Node) → Good R belongs a → (n : ℕ) (k : Kind) → n < length a → (node a n).kind ≡ k → NotClaim k → (m : ℕ) × Arrow a m n
some_arrow R belongs a ok n (Action y z) l e nc = let b = ok.meets.rule_IV n y z (record { within = l; kind = e }) in last_arrow a b.0 n b.2
some_arrow R belongs a ok n (Claim r) l e nc = absurd nc
some_arrow R belongs a ok n (Release r) l e nc = let b = ok.meets.rule_VI n r (record { within = l; kind = e }) in last_arrow a b.0 n b.2
some_arrow R belongs a ok n (Event f) l e nc = ok.meets.rule_X n f (record { within = l; kind = e })

-- v is 0, or the last completion of the event that k is
abbrev Waits : (ℕ → ℕ) → Kind → ℕ → Type 0
Waits last k v = (v ≡ 0) ⊎ ((e : ℕ) × (k ≡ Event e) × (v ≡ last e))

held_event : (last : ℕ → ℕ) (k : Kind) → Waits last k (held last k)
held_event last (Action a p) = inl refl
held_event last (Claim r) = inl refl
held_event last (Release r) = inl refl
held_event last (Event e) = inr (e, refl, refl)

module _ (R : ℕ) (belongs : ℕ → ℕ) (x : Step) (t : Trace) (p : ℕ) (ok : Good R belongs x.output) (st : Stepped R x t p) where
  a : List Node
  a = x.output

  free : ℕ → ℕ
  free r = max ((t.state p).free r) (t.floor p)

  last : ℕ → ℕ
  last = (t.state p).last

  H : Graph
  H = completed R (suc p) x.output

  -- a node with a predecessor is no claim
  others : (m n : ℕ) → Arrow x.output m n → t.start p n ≡ max (latest (t.end p) (predecessors (node x.output n))) (held (t.state p).last (node x.output n).kind)
  others m n h = st.timed.others n h.within (not_claim (node x.output n).kind (λ r e. ok.meets.rule_VIII m n r (record { within = h.within; kind = e }) h))

  claims : (y : Ident) (k : Kind) (r d : ℕ) → k ≡ Claim r → Nodes R (suc p) x.output y k d → (r < R) × (end_at t y ≡ max ((t.state p).free r) (t.floor p))
  claims y k r d c (Nodes.own {n} l e f) = (
    ok.named n r (record { within = l; kind = e ∙ c }),
    (let u = st.timed.claims n r (record { within = l; kind = e ∙ c }) in
        let v = st.timed.ends n l in
        let z : (node x.output n).duration ≡ 0 = subst (λ (l : Kind). Brief l (node x.output n).duration) (e ∙ c) (ok.brief n l) in
        omega arith),
  )
  claims y k r d c (Nodes.claim {r = s} l u) = subst (λ (z : ℕ). (z < R) × (max ((t.state p).free s) (t.floor p) ≡ max ((t.state p).free z) (t.floor p))) (claim_same c) (l, refl)
  claims y k r d c (Nodes.release l u) = claim_release (sym c)

  bound : (m n : Ident) → Arrows R (suc p) x.output m n → end_at t m ≤ start_at t n
  bound m n (Arrows.own {m = i} {n = j} h) = let u = others i j h in let v = latest_bound (t.end p) i (predecessors (node x.output j)) h.from in omega arith
  bound m n (Arrows.added l u) = omega arith

  some : (y : Ident) (k : Kind) (d : ℕ) → Nodes R (suc p) x.output y k d → NotClaim k → (m : Ident) × Arrows R (suc p) x.output m y
  some y k d (Nodes.own {n} l e f) nc = let s = some_arrow R belongs x.output ok n k l e nc in (named (suc p) s.0, Arrows.own s.1)
  some y k d (Nodes.claim l u) nc = absurd nc
  some y k d (Nodes.release {r} l u) nc = (claimed (suc p) r, Arrows.added l u)

  later : (y : Ident) (k : Kind) (e d : ℕ) → k ≡ Event e → Nodes R (suc p) x.output y k d → (t.state p).last e ≤ start_at t y
  later y k e d c (Nodes.own {n} l f g) =
      let s = ok.meets.rule_X n e (record { within = l; kind = f ∙ c }) in
      let u = others s.0 n s.1 in
      let v = ap (held (t.state p).last) (f ∙ c) in
      omega arith
  later y k e d c (Nodes.claim l u) = absurd (let z : ◌≡◌ {A = ℕ} 0 1 = cc in omega arith)
  later y k e d c (Nodes.release l u) = absurd (let z : ◌≡◌ {A = ℕ} 0 1 = cc in omega arith)

  reached : (y : Ident) (k : Kind) (d : ℕ) → Nodes R (suc p) x.output y k d → NotClaim k → Reached (completed R (suc p) x.output) (t.state p).last (start_at t) (end_at t) y k
  reached y k d (Nodes.own {n} l f g) nc = pick (dec_le h m) (latest_reached (t.end p) (predecessors (node x.output n))) (held_event (t.state p).last (node x.output n).kind)
    where
      m : ℕ
      m = latest (t.end p) (predecessors (node x.output n))

      h : ℕ
      h = held (t.state p).last (node x.output n).kind

      s : (j : ℕ) × Arrow x.output j n
      s = some_arrow R belongs x.output ok n k l f nc

      is : t.start p n ≡ max m h
      is = others s.0 n s.1

      pick : Dec (h ≤ m) → OneOf (t.end p) (predecessors (node x.output n)) m → Waits (t.state p).last (node x.output n).kind h → Reached (completed R (suc p) x.output) (t.state p).last (start_at t) (end_at t) (named (suc p) n) k
      pick (yes b) (inl z) o = inl (named (suc p) s.0, Arrows.own s.1, (let u = latest_bound (t.end p) s.0 (predecessors (node x.output n)) s.1.from in omega (arith, is)))
      pick (yes b) (inr i) o = inl (named (suc p) i.0, Arrows.own (record { within = l; from = i.1 }), (let u = i.2 in omega (arith, is)))
      pick (no b) o (inl z) = absurd (omega arith)
      pick (no b) o (inr i) = inr (i.0, sym f ∙ i.1, (let u = i.2 in omega (arith, is)))
  reached y k d (Nodes.claim l u) nc = absurd nc
  reached y k d (Nodes.release {r} l u) nc = inl (claimed (suc p) r, Arrows.added l u, refl)

  ends : (y : Ident) (k : Kind) (d : ℕ) → Nodes R (suc p) x.output y k d → end_at t y ≡ start_at t y + d
  ends y k d (Nodes.own {n} l f g) = let u = st.timed.ends n l in omega arith
  ends y k d (Nodes.claim l u) = omega arith
  ends y k d (Nodes.release l u) = omega arith

  pub engine_fresh : Fresh R (completed R (suc p) x.output) (λ r. max ((t.state p).free r) (t.floor p)) (t.state p).last (start_at t) (end_at t)
  engine_fresh = record {
    claims = λ y r d h. claims y (Claim r) r d refl h;
    bound = bound;
    later = λ y e d h. later y (Event e) e d refl h;
    some = some;
    reached = reached;
    ends = ends;
  }
