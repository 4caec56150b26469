-- The engine's times are the times of the combined activity of the whole word.
use Rattle.std.specs.Prelude.{◌≡◌, refl, Bool, true, false, cond, List, [], ◌∷◌, ◌++◌, map, ℕ, suc, ◌+◌, ◌≤◌, ◌<◌, max, length, eqb}
use Rattle.std.proofs.Common.{sym, ap, ap₂, ◌∙◌, subst, inl, inr, append_assoc, arith, add-zero, length-append, eqb-true}
use Rattle.std.proofs.lemmas.List.{map-append}
use Rattle.std.proofs.Math.Decide.{dec_le}
use Rattle.basis.specs.Lists.{one, more}
use Rattle.basis.proofs.Laws.Lists.{head_same, nil_cons}
use Rattle.plan.specs.declared.Kind.{Kind}
use Rattle.plan.specs.declared.Kind.TheVariants.{Claim, Release, Event}
use Rattle.plan.specs.declared.Node.{Node}
use Rattle.plan.specs.declared.Input.{Input}
use Rattle.plan.specs.declared.Input.TheVariants.{Nothing, Outcome}
use Rattle.plan.specs.Limits.{Brief}
use Rattle.activity.specs.Rules.{node, Unnamed, Meets}
use Rattle.times_combined.specs.Word.{Step, Word, τ, ◌▷◌, size, once, times}
use Rattle.times_combined.proofs.Laws.Accepted.{Good, GoodWord}
use Rattle.times_combined.specs.Combined.{Ident, named, claimed, freed, NotClaim, Graph, Is, Before, Nodes, Arrows, completed, instance, Instance, Joined, processing, combined}
use Rattle.times_combined.specs.Times.{Largest, Timing}
use Rattle.times_combined.proofs.Laws.Engine.{Available, Trace, Stepped, Floor, taken, behind, latest, Run, opens, goes, start_at, end_at}
use Rattle.times_combined.proofs.Laws.Shape.{Shape, completed_shape, sequenced_shape, right_release, node_place_lem, claim_same}
use Rattle.times_combined.proofs.Laws.Joining.{Attained, Known, Floored, whole}
use Rattle.times_combined.proofs.Laws.OneActivity.{OneOf, latest_bound, latest_reached, engine_fresh}
use Rattle.times_combined.proofs.Laws.Instances.{Listing, next_instance, only_instance, listing_grows}
use Rattle.activity.specs.Rules as Rules

-- the queue of e holds the completions of its nodes, less the first n
pub record Emitted (G : Graph) (e n : ℕ) (C : Ident → ℕ) (queue : List ℕ) : Type 0 where
  pub past : List Ident
  pub pending : List Ident
  pub count : length past ≡ n
  pub completions : queue ≡ map C pending
  pub listing : Listing G e (past ++ pending)

-- what holds after a word
pub record After (R : ℕ) (available : ℕ → ℕ) (t : Trace) (w : Word) : Type 0 where
  pub shape : Shape (combined R w) (size w)
  pub brief : (x : Ident) (r d : ℕ) → (combined R w).Holds x (Release r) d → d ≡ 0
  pub timing : Timing (combined R w) available (start_at t) (end_at t)
  pub known : Known R (combined R w) (t.state (size w)).free (t.state (size w)).last (end_at t)
  pub queues : (e : ℕ) → Emitted (combined R w) e (times e w) (end_at t) ((t.state (size w)).queue e)

-- ---- the opening

pub none : {A : Type 0} {n : ℕ} → n < length {A = Node} [] → A
none l = absurd (omega arith)

empty_chain : {A : Type 0} (m n : ℕ) → Rules.Before [] m n → A
empty_chain m n (one h) = none h.within
empty_chain m n (more c h) = none h.within

pub meets_empty : (belongs : ℕ → ℕ) → Meets belongs []
meets_empty belongs = record {
  no_cycle_lem = λ n c. empty_chain n n c;
  rule_I = λ m n x y p h. none h.within;
  rule_II = λ m n r h. none h.within;
  rule_III = λ m n r h. none h.within;
  rule_IV = λ n x p h. none h.within;
  rule_V = λ n x p h. none h.within;
  rule_VI = λ n r h. none h.within;
  rule_VII = λ n r h. none h.within;
  rule_VIII = λ m n r h. none h.within;
  rule_IX = λ m n r h. none h.within;
  rule_X = λ n e h. none h.within;
  rule_XI = λ m n e h. none h.within;
}

pub good_empty : (R : ℕ) (belongs : ℕ → ℕ) → Good R belongs []
good_empty R belongs = record { named = λ n r h. none h.within; brief = λ n l. none l; inside = λ m n h. none h.within; meets = meets_empty belongs }

unnamed_empty : (r : ℕ) → Unnamed [] r
unnamed_empty r = record { unclaimed = λ n h. none h.within; unreleased = λ n h. none h.within }

brief_nodes : (R q : ℕ) (belongs : ℕ → ℕ) (a : List Node) → Good R belongs a → (x : Ident) (k : Kind) (r d : ℕ) → k ≡ Release r → Nodes R q a x k d → d ≡ 0
brief_nodes R q belongs a ok x k r d c (Nodes.own {n} l e f) = sym f ∙ subst (λ (z : Kind). Brief z (node a n).duration) (e ∙ c) (ok.brief n l)
brief_nodes R q belongs a ok x k r d c (Nodes.claim l u) = refl
brief_nodes R q belongs a ok x k r d c (Nodes.release l u) = refl

no_event : {Z : Type 0} (R : ℕ) (x : Ident) (k : Kind) (e d : ℕ) → k ≡ Event e → Nodes R 0 [] x k d → Z
no_event R x k e d c (Nodes.own l f g) = none l
no_event R x k e d c (Nodes.claim l u) = absurd (let z : ◌≡◌ {A = ℕ} 0 1 = cc in omega arith)
no_event R x k e d c (Nodes.release l u) = absurd (let z : ◌≡◌ {A = ℕ} 0 1 = cc in omega arith)

uncut : {Z : Type 0} (ys : List Ident) (x : Ident) (zs : List Ident) → [] ≡ ys ++ (x ∷ zs) → Z
uncut [] x zs e = nil_cons e
uncut (y ∷ ys) x zs e = nil_cons e

-- the opening emits nothing
pub empty_listing : (R e : ℕ) → Listing (combined R τ) e []
empty_listing R e = record { all = λ x h. absurd h; only = λ x h. no_event R x (Event e) e h.0 refl h.1; distinct = tt; ordered = λ ys x zs f y h. uncut ys x zs f }

module _ (R : ℕ) (belongs available : ℕ → ℕ) (t : Trace) (free : (r : ℕ) → (t.state 0).free r ≡ available r) (last : (e : ℕ) → (t.state 0).last e ≡ 0) (queue : (e : ℕ) → (t.state 0).queue e ≡ []) where
  open_claims : (x : Ident) (k : Kind) (r d : ℕ) → k ≡ Claim r → Nodes R 0 [] x k d → start_at t x ≡ available r
  open_claims x k r d c (Nodes.own l e f) = none l
  open_claims x k r d c (Nodes.claim {r = s} l u) = free s ∙ ap available (claim_same c)
  open_claims x k r d c (Nodes.release l u) = absurd (let z : ◌≡◌ {A = ℕ} 0 1 = cc in omega arith)

  open_bound : (m n : Ident) → Arrows R 0 [] m n → end_at t m ≤ start_at t n
  open_bound m n (Arrows.own h) = none h.within
  open_bound m n (Arrows.added l u) = omega arith

  open_others : (x : Ident) (k : Kind) (d : ℕ) → Nodes R 0 [] x k d → NotClaim k → Largest (λ (m : Ident). Arrows R 0 [] m x) (end_at t) (start_at t x)
  open_others x k d (Nodes.own l e f) nc = none l
  open_others x k d (Nodes.claim l u) nc = absurd nc
  open_others x k d (Nodes.release {r} l u) nc = record { bound = λ m h. open_bound m (freed 0 r) h; reached = (claimed 0 r, Arrows.added l u, refl) }

  open_ends : (x : Ident) (k : Kind) (d : ℕ) → Nodes R 0 [] x k d → end_at t x ≡ start_at t x + d
  open_ends x k d (Nodes.own l e f) = none l
  open_ends x k d (Nodes.claim l u) = omega arith
  open_ends x k d (Nodes.release l u) = omega arith

  pub opening : After R available t τ
  opening = record {
    shape = completed_shape R 0 belongs [] (good_empty R belongs);
    brief = λ x r d h. brief_nodes R 0 belongs [] (good_empty R belongs) x (Release r) r d refl h;
    timing = record { claims = λ x r d h. open_claims x (Claim r) r d refl h; others = open_others; ends = open_ends };
    known = record {
      released = λ r l. (freed 0 r, (0, Nodes.release l (unnamed_empty r)), refl);
      latest = λ e x h. no_event R x (Event e) e h.0 refl h.1;
      attained = λ e. inl (last e);
    };
    queues = λ e. record {
      past = [];
      pending = [];
      count = refl;
      completions = queue e;
      listing = empty_listing R e;
    };
  }

-- ---- queues

event_of_lem : {e f j k : ℕ} → instance e j ≡ instance f k → e ≡ f
event_of_lem c = cc

number_of : {e f j k : ℕ} → instance e j ≡ instance f k → j ≡ k
number_of c = cc

-- the oldest is taken
pub popped : (G : Graph) (e n c : ℕ) (C : Ident → ℕ) (qs rest : List ℕ) → qs ≡ c ∷ rest → Emitted G e n C qs → Emitted G e (n + 1) C (behind qs)
popped G e n c C qs rest f em = go em.pending refl
  where
    go : (is : List Ident) → em.pending ≡ is → Emitted G e (n + 1) C (behind qs)
    go [] g = nil_cons (sym (em.completions ∙ ap (map C) g) ∙ f)
    go (i ∷ is) g = record {
      past = em.past ++ (i ∷ []);
      pending = is;
      count = (let u = length-append em.past (i ∷ []) in let v = em.count in omega arith);
      completions = ap behind (em.completions ∙ ap (map C) g);
      listing = subst (Listing G e) (ap (λ (l : List Ident). em.past ++ l) g ∙ sym (append_assoc em.past (i ∷ []) is)) em.listing;
    }

map_named : (t : Trace) (p : ℕ) (ns : List ℕ) → map (t.end p) ns ≡ map (end_at t) (map (named (suc p)) ns)
map_named t p [] = refl
map_named t p (n ∷ ns) = ap (λ (l : List ℕ). t.end p n ∷ l) (map_named t p ns)

module _ (R : ℕ) (belongs available : ℕ → ℕ) (t : Trace) (w : Word) (x : Step) (ok : Good R belongs x.output) (af : After R available t w) (st : Stepped R x t (size w)) where
  pushed : (e n : ℕ) (qs : List ℕ) → Emitted (combined R w) e n (end_at t) qs → Emitted (combined R (w ▷ x)) e n (end_at t) (qs ++ map (t.end (size w)) (t.emits (size w) e))
  pushed e n qs em = record {
    past = em.past;
    pending = em.pending ++ map (named (suc (size w))) (t.emits (size w) e);
    count = em.count;
    completions = ap₂ (λ (l m : List ℕ). l ++ m) em.completions (map_named t (size w) (t.emits (size w) e)) ∙ sym (map-append (end_at t) em.pending (map (named (suc (size w))) (t.emits (size w) e)));
    listing =
        subst (Listing (combined R (w ▷ x)) e) (append_assoc em.past em.pending (map (named (suc (size w))) (t.emits (size w) e)))
        (listing_grows R belongs (combined R w) (processing w x.input) (size w) x.output af.shape ok e (em.past ++ em.pending) em.listing (t.emits (size w) e) (st.emits e));
  }

  after_taking : (i : Input) → Floor i (t.state (size w)) (t.floor (size w)) → (f : ℕ) → Emitted (combined R w) f (times f w + once f i) (end_at t) (taken i (t.state (size w)) f)
  after_taking Nothing fl f = rw add-zero (af.queues f)
  after_taking (Outcome e u) fl f = go (eqb e f) refl
    where
      go : (b : Bool) → eqb e f ≡ b → Emitted (combined R w) f (times f w + cond b 1 0) (end_at t) (cond b (behind ((t.state (size w)).queue f)) ((t.state (size w)).queue f))
      go true g = popped (combined R w) f (times f w) (t.floor (size w)) (end_at t) ((t.state (size w)).queue f) fl.0 (ap (t.state (size w)).queue (sym (eqb-true e f g)) ∙ fl.1) (af.queues f)
      go false g = rw add-zero (af.queues f)

  floored : (i : Input) → Floor i (t.state (size w)) (t.floor (size w)) → Floored (combined R w) (processing w i) (end_at t) (t.floor (size w))
  floored Nothing fl = record { bound = λ e k y c h. absurd (let z : ◌≡◌ {A = ℕ} 0 1 = cc in omega arith); attained = inl fl }
  floored (Outcome e u) fl = go em.pending refl
    where
      em : Emitted (combined R w) e (times e w) (end_at t) ((t.state (size w)).queue e)
      em = af.queues e

      go : (is : List Ident) → em.pending ≡ is → Floored (combined R w) (instance e (times e w + 1)) (end_at t) (t.floor (size w))
      go [] g = nil_cons (sym (em.completions ∙ ap (map (end_at t)) g) ∙ fl.1)
      go (i ∷ is) g = record {
        bound = λ f k y c h. bounded f k y c h;
        attained = inr (e, times e w + 1, i, refl, subst (λ (n : ℕ). Instance (combined R w) e (n + 1) i) em.count (next_instance (combined R w) e em.past i is l), same);
      }
        where
          l : Listing (combined R w) e (em.past ++ (i ∷ is))
          l = subst (λ (z : List Ident). Listing (combined R w) e (em.past ++ z)) g em.listing

          same : end_at t i ≡ t.floor (size w)
          same = head_same (sym (em.completions ∙ ap (map (end_at t)) g) ∙ fl.1)

          bounded : (f k : ℕ) (y : Ident) → instance e (times e w + 1) ≡ instance f k → Instance (combined R w) f k y → end_at t y ≤ t.floor (size w)
          bounded f k y c h =
              let h1 : Instance (combined R w) e k y = subst (λ (z : ℕ). Instance (combined R w) z k y) (sym (event_of_lem c)) h in
              let n : k ≡ length em.past + 1 = (let u = number_of c in let v = em.count in omega arith) in
              let h2 : Instance (combined R w) e (length em.past + 1) y = subst (λ (z : ℕ). Instance (combined R w) e z y) n h1 in
              let u = ap (end_at t) (only_instance (combined R w) e em.past i is l y h2) in
              omega (arith, same)

  -- ---- what the next state says

  new_latest : (e : ℕ) (y : Ident) (k : Kind) (d : ℕ) → k ≡ Event e → Joined (combined R w) (completed R (suc (size w)) x.output) y k d → end_at t y ≤ (t.state (suc (size w))).last e
  new_latest e y k d c (Joined.left h nr) =
      let u = af.known.latest e y (d, subst (λ (z : Kind). (combined R w).Holds y z d) c h) in
      let v = st.last e in
      omega arith
  new_latest e y k d c (Joined.right h nc) = go y k d c h
    where
      go : (y : Ident) (k : Kind) (d : ℕ) → k ≡ Event e → Nodes R (suc (size w)) x.output y k d → end_at t y ≤ (t.state (suc (size w))).last e
      go y k d c (Nodes.own {n} l f g) =
          let u = latest_bound (t.end (size w)) n (t.emits (size w) e) ((st.emits e).only n (record { within = l; kind = f ∙ c })) in
          let v = st.last e in
          omega arith
      go y k d c (Nodes.claim l u) = absurd (let z : ◌≡◌ {A = ℕ} 0 1 = cc in omega arith)
      go y k d c (Nodes.release l u) = absurd (let z : ◌≡◌ {A = ℕ} 0 1 = cc in omega arith)

  new_attained : (e : ℕ) → Attained (combined R (w ▷ x)) e (end_at t) ((t.state (suc (size w))).last e)
  new_attained e = go (dec_le m ((t.state (size w)).last e)) (af.known.attained e) (latest_reached (t.end (size w)) (t.emits (size w) e))
    where
      m : ℕ
      m = latest (t.end (size w)) (t.emits (size w) e)

      is : (t.state (suc (size w))).last e ≡ max ((t.state (size w)).last e) m
      is = st.last e

      go : Dec (m ≤ (t.state (size w)).last e) → Attained (combined R w) e (end_at t) ((t.state (size w)).last e) → OneOf (t.end (size w)) (t.emits (size w) e) m → Attained (combined R (w ▷ x)) e (end_at t) ((t.state (suc (size w))).last e)
      go (yes l) (inl z) o = inl (omega (arith, is))
      go (yes l) (inr i) o = inr (i.0, (i.1.0, Joined.left i.1.1 tt), (let u = i.2 in omega (arith, is)))
      go (no l) o (inl z) = absurd (omega arith)
      go (no l) o (inr i) =
          let s = (st.emits e).all i.0 i.1 in
          inr (named (suc (size w)) i.0, ((node x.output i.0).duration, Joined.right (Nodes.own s.within s.kind refl) tt), (let u = i.2 in omega (arith, is)))

  new_released : (r : ℕ) → r < R → (y : Ident) × Is (combined R (w ▷ x)) y (Release r) × (end_at t y ≡ (t.state (suc (size w))).free r)
  new_released r l = go (st.free r l)
    where
      go : Available x.output (t.end (size w)) (t.state (size w)) (t.floor (size w)) r ((t.state (suc (size w))).free r) → (y : Ident) × Is (combined R (w ▷ x)) y (Release r) × (end_at t y ≡ (t.state (suc (size w))).free r)
      go (inl i) = (named (suc (size w)) i.0, ((node x.output i.0).duration, Joined.right (Nodes.own i.1.within i.1.kind refl) tt), sym i.2)
      go (inr i) = (freed (suc (size w)) r, (0, Joined.right (Nodes.release l i.0) tt), sym i.1)

  sb : Shape (completed R (suc (size w)) x.output) (suc (size w))
  sb = completed_shape R (suc (size w)) belongs x.output ok

  pub step : After R available t (w ▷ x)
  step = record {
    shape = sequenced_shape (combined R w) (completed R (suc (size w)) x.output) (processing w x.input) (size w) af.shape sb (node_place_lem R (suc (size w)) x.output);
    brief = λ y r d h. brief_nodes R (suc (size w)) belongs x.output ok y (Release r) r d refl (right_release (combined R w) (completed R (suc (size w)) x.output) (processing w x.input) (size w) af.shape sb (node_place_lem R (suc (size w)) x.output) y r d h);
    timing =
        whole R (combined R w) (completed R (suc (size w)) x.output) (processing w x.input) (size w) (t.floor (size w)) available (t.state (size w)).free (t.state (size w)).last (start_at t) (end_at t)
        af.shape sb (node_place_lem R (suc (size w)) x.output) af.brief af.timing af.known (floored x.input st.floor) (engine_fresh R belongs x t (size w) ok st);
    known = record { released = new_released; latest = λ e y h. new_latest e y (Event e) h.0 refl h.1; attained = new_attained };
    queues = λ e. subst (Emitted (combined R (w ▷ x)) e (times e w + once e x.input) (end_at t)) (sym (st.queue e)) (pushed e (times e w + once e x.input) (taken x.input (t.state (size w)) e) (after_taking x.input st.floor e));
  }

-- ---- the theorem

pub after : (R : ℕ) (belongs available : ℕ → ℕ) (t : Trace) (w : Word) → GoodWord R belongs w → Run R available t w → After R available t w
after R belongs available t w ok (opens f l q) = opening R belongs available t f l q
after R belongs available t w ok (goes {w = v} {x} run st) = step R belongs available t v x ok.1 (after R belongs available t v ok.0 run) st

pub record Equal (R : ℕ) (available : ℕ → ℕ) (t : Trace) (w : Word) : Type 0 where
  -- the engine's times satisfy Def. 11 on the combined activity
  pub timing : Timing (combined R w) available (start_at t) (end_at t)
  -- each resource has one release there, which completes when the engine has it available
  pub free : (r : ℕ) → r < R → (y : Ident) × Is (combined R w) y (Release r) × (end_at t y ≡ (t.state (size w)).free r)
  pub one_release : (y z : Ident) (r : ℕ) → Is (combined R w) y (Release r) → Is (combined R w) z (Release r) → y ≡ z

pub times_equal : (R : ℕ) (belongs available : ℕ → ℕ) (t : Trace) (w : Word) → GoodWord R belongs w → Run R available t w → Equal R available t w
times_equal R belongs available t w ok run =
    let a = after R belongs available t w ok run in
    record { timing = a.timing; free = a.known.released; one_release = a.shape.single }
