-- One transition after a part of a path, and the end of a path. Assumes nothing.
use Rattle.std.specs.Prelude.{◌≡◌, Bool, length, replicate}
use Rattle.std.proofs.Math.Path.{refl, sym, ap, subst}
use Rattle.std.proofs.Common.{◌∙◌}
use Rattle.std.proofs.Math.Bool.{true, false, cond}
use mathlib.Core.List.{List, [], ◌∷◌, ◌++◌}
use Prim.Native.Nat.{ℕ, zero, suc, ◌+◌, ◌-◌, ◌*◌, ◌≤◌, ◌<◌}
use native.Mathlib.Omega.{arith}
use Rattle.basis.proofs.Laws.PartsHold.{length_part}
use Rattle.plan.specs.Plan.{past_node, nodes_of, emitted_by, move}
use Rattle.plan.specs.Limits.{InLimits}
use Rattle.plan.specs.declared.Node.{Node}
use Rattle.plan.specs.declared.Activity.{Activity}
use Rattle.plan.specs.declared.Automaton.{Automaton}
use Rattle.plan.specs.declared.Plan.{Plan}
use Rattle.automaton.specs.Next.{next_of}
use Rattle.automaton.specs.declared.Next.{Next}
use Rattle.automaton.proofs.Laws.Following.{next_leaves}
use Rattle.times.specs.Engine.{advance_of}
use Rattle.times.proofs.Laws.Kept.{kept}
use Rattle.times.specs.declared.Progress.{Progress}
use Rattle.times.specs.declared.Advanced.{Advanced}
use Rattle.run_window.specs.Window.{vacant}
use Rattle.run_window.specs.declared.Entry.{Entry}
use Rattle.run_path.specs.declared.Pathed.{Pathed}
use Rattle.run_path.specs.Path.{Path, activity_number, taken_by, entries_by, ends, after, path_from}
use Rattle.run_path.specs.Pathed.{ProgressIn, Leads, pathed}
use Rattle.run_path.specs.Inner.Path.{emitted_of, nothing_yet, put, onto, stopped, step, taken_of}
use Rattle.run_path.proofs.Laws.Collecting.{put_append, put_vacant, entries_few}
use Rattle.run_path.proofs.Laws.Emitting.{emitted_nodes, emitted_fits, step_fits}

-- ---- what a state does next is a transition of the plan

pub next_leads : (a : Automaton) (s : ℕ) → Leads a.count (next_of a s)
next_leads a s = by (next_of a s) refl
  where
    by : (n : Next) → next_of a s ≡ n → Leads a.count n
    by Next.Ended e = tt
    by (Next.Goes t) e = (next_leaves a s t e).low
    by (Next.Waits x) e = tt

-- ---- one transition

module _ (p : Plan) (t : ℕ) (g : Progress) where
  -- what the code works out
  pub advanced_is : (i : ℕ) (a : Activity) (v : Advanced) → i ≡ t → a ≡ emitted_of p (move p.automaton i).output → v ≡ advance_of p.resources (nodes_of a) (move p.automaton i).input (move p.automaton i).to g → v ≡ taken_by p t g
  advanced_is i a v ei ea ev =
      ev
      ∙ ap (λ (ns : List Node). advance_of p.resources ns (move p.automaton i).input (move p.automaton i).to g) (ap nodes_of ea ∙ emitted_nodes p (move p.automaton i).output)
      ∙ ap (λ (k : ℕ). taken_by p k g) ei

  -- it stays within the limits
  pub taken_kept : InLimits p → t < p.automaton.count → ProgressIn p g → (taken_by p t g).beyond ≡ false → ProgressIn p (taken_by p t g).progress
  unfolding step_fits
  taken_kept h l k e =
      let o = (move p.automaton t).output in
      let z = ap (λ (ns : List Node). advance_of p.resources ns (move p.automaton t).input (move p.automaton t).to g) (emitted_nodes p o) in
      subst (λ (v : Advanced). ProgressIn p v.progress) z
      (kept p.resources (emitted_of p o) (move p.automaton t).input (move p.automaton t).to g (step_fits p h t l g k) (h.moves t l).to (ap (λ (v : Advanced). v.beyond) z ∙ e))

  -- it brings at most 64 entries
  pub entries_by_lem : InLimits p → t < p.automaton.count → length (entries_by p t g) ≤ 64
  entries_by_lem h l =
      let o = (move p.automaton t).output in
      let u = entries_few g.position (activity_number o) (taken_by p t g).schedule 0 (emitted_by p o) in
      let w = (emitted_fits p h o (h.moves t l).output).count in
      let x = ap length (emitted_nodes p o) in
      let y = length_part past_node (emitted_of p o).nodes 0 (emitted_of p o).count in
      omega arith

module _ (p : Plan) (t : ℕ) (f : Pathed) where
  pub taken_stops : (taken_by p t f.progress).beyond ≡ true → taken_of p t f ≡ stopped f
  unfolding taken_of
  taken_stops e = ap (λ (b : Bool). cond b (stopped f) (onto f (step p t f))) e

  pub taken_goes : (taken_by p t f.progress).beyond ≡ false → taken_of p t f ≡ onto f (step p t f)
  unfolding taken_of
  taken_goes e = ap (λ (b : Bool). cond b (stopped f) (onto f (step p t f))) e

  -- a transition adds at most 64 entries
  pub taken_few : InLimits p → t < p.automaton.count → (taken_by p t f.progress).beyond ≡ false → (taken_of p t f).count ≤ f.count + 64
  unfolding onto
  taken_few h l e = let u = entries_by_lem p t f.progress h l in let z = ap (λ (r : Pathed). r.count) (taken_goes e) in omega arith

-- ---- a path

length-append : (es fs : List Entry) → length (es ++ fs) ≡ length es + length fs
length-append [] fs = omega arith
length-append (e ∷ es) fs = let u = length-append es fs in omega arith

-- one part after the other
onto_after : (f : Pathed) (s q : Path) → onto f (after s.entries q) ≡ onto (onto f s) q
unfolding onto
onto_after f s q =
    let z : f.count + length (s.entries ++ q.entries) ≡ f.count + length s.entries + length q.entries = let u = length-append s.entries q.entries in omega arith in
    ap (λ (l : List Entry). record { beyond = q.beyond; entries = l; count = f.count + length (s.entries ++ q.entries); progress = q.progress }) (put_append f.entries f.count s.entries q.entries)
    ∙ ap (λ (k : ℕ). record { beyond = q.beyond; entries = put (put f.entries f.count s.entries) (f.count + length s.entries) q.entries; count = k; progress = q.progress }) z

onto_ends : (f : Pathed) → f.beyond ≡ false → onto f (ends f.progress) ≡ f
unfolding onto put
onto_ends f e =
    let z : f.count + 0 ≡ f.count = omega arith in
    ap (λ (k : ℕ). record { beyond = false; entries = f.entries; count = k; progress = f.progress }) z
    ∙ ap (λ (b : Bool). record { beyond = b; entries = f.entries; count = f.count; progress = f.progress }) (sym e)

onto_stops : (f : Pathed) → onto f (record { beyond = true; entries = []; progress = f.progress }) ≡ stopped f
unfolding onto put
onto_stops f =
    let z : f.count + 0 ≡ f.count = omega arith in
    ap (λ (k : ℕ). record { beyond = true; entries = f.entries; count = k; progress = f.progress }) z

-- a path in the making: q is the part f and then the path from `next`, of at most `left` transitions
pub record Walking (p : Plan) (q : Path) (left : ℕ) (next : Next) (f : Pathed) : Type 0 where
  pub few : left ≤ 64
  pub whole : pathed q ≡ onto f (path_from p left next f.progress)
  pub going : f.beyond ≡ false
  pub count : f.count + 64 * left ≤ 4096
  pub limits : ProgressIn p f.progress
  pub leads : Leads p.automaton.count next

pub walking_starts : (p : Plan) (next : Next) (g : Progress) → Leads p.automaton.count next → ProgressIn p g → Walking p (path_from p 64 next g) 64 next (nothing_yet g)
unfolding pathed onto
walking_starts p next g l h = record {
  few = omega arith;
  whole =
      let q = path_from p 64 next g in
      let z : length q.entries ≡ 0 + length q.entries = omega arith in
      ap (λ (es : List Entry). record { beyond = q.beyond; entries = es; count = length q.entries; progress = q.progress }) (sym (put_vacant 512 q.entries))
      ∙ ap (λ (k : ℕ). record { beyond = q.beyond; entries = put (replicate 512 vacant) 0 q.entries; count = k; progress = q.progress }) z;
  going = refl;
  count = omega arith;
  limits = h;
  leads = l;
}

module _ (p : Plan) (q : Path) (left : ℕ) (f : Pathed) where
  pub walking_ended : {next : Next} → Walking p q left next f → next ≡ Next.Ended → f ≡ pathed q
  unfolding path_from
  walking_ended w e = sym (w.whole ∙ ap (λ (x : Next). onto f (path_from p left x f.progress)) e ∙ ap (onto f) (ended left) ∙ onto_ends f w.going)
    where
      ended : (k : ℕ) → path_from p k Next.Ended f.progress ≡ ends f.progress
      ended zero = refl
      ended (suc k) = refl

  pub walking_waits : {next : Next} {e : ℕ} → Walking p q left next f → next ≡ Next.Waits e → f ≡ pathed q
  unfolding path_from
  walking_waits {e} w d = sym (w.whole ∙ ap (λ (x : Next). onto f (path_from p left x f.progress)) d ∙ ap (onto f) (waits left) ∙ onto_ends f w.going)
    where
      waits : (k : ℕ) → path_from p k (Next.Waits e) f.progress ≡ ends f.progress
      waits zero = refl
      waits (suc k) = refl

  pub walking_over : {next : Next} → Walking p q left next f → left ≡ 0 → f ≡ pathed q
  unfolding path_from
  walking_over {next} w e = sym (w.whole ∙ ap (λ (k : ℕ). onto f (path_from p k next f.progress)) e ∙ onto_ends f w.going)

  module _ (t : ℕ) {next : Next} (w : Walking p q left next f) (is : next ≡ Next.Goes t) (h : 0 < left) (limits : InLimits p) where
    pub named : t < p.automaton.count
    named = subst (Leads p.automaton.count) is w.leads

    opens : pathed q ≡ onto f (cond (taken_by p t f.progress).beyond (record { beyond = true; entries = []; progress = f.progress }) (after (entries_by p t f.progress) (path_from p (left - 1) (next_of p.automaton (taken_by p t f.progress).progress.state) (taken_by p t f.progress).progress)))
    unfolding path_from
    opens =
        let z : left ≡ suc (left - 1) = omega arith in
        w.whole ∙ ap (λ (x : Next). onto f (path_from p left x f.progress)) is ∙ ap (λ (k : ℕ). onto f (path_from p k (Next.Goes t) f.progress)) z

    told : {b : Bool} (r : Pathed) → r ≡ taken_of p t f → r.beyond ≡ b → (taken_by p t f.progress).beyond ≡ b
    unfolding onto
    told {b} r e d = go (taken_by p t f.progress).beyond refl
      where
        go : (x : Bool) → (taken_by p t f.progress).beyond ≡ x → (taken_by p t f.progress).beyond ≡ b
        go true k = k ∙ sym (ap (λ (y : Pathed). y.beyond) (e ∙ taken_stops p t f k)) ∙ d
        go false k = k ∙ sym (ap (λ (y : Pathed). y.beyond) (e ∙ taken_goes p t f k)) ∙ d

    pub walking_stops : (r : Pathed) → r ≡ taken_of p t f → r.beyond ≡ true → r ≡ pathed q
    walking_stops r e d =
        let k = told r e d in
        e ∙ taken_stops p t f k ∙ sym (opens ∙ ap (λ (b : Bool). onto f (cond b (record { beyond = true; entries = []; progress = f.progress }) (after (entries_by p t f.progress) (path_from p (left - 1) (next_of p.automaton (taken_by p t f.progress).progress.state) (taken_by p t f.progress).progress)))) k ∙ onto_stops f)

    pub walking_on : (r : Pathed) (to : Next) → r ≡ taken_of p t f → r.beyond ≡ false → to ≡ next_of p.automaton r.progress.state → Walking p q (left - 1) to r
    unfolding onto
    walking_on r to e d n =
        let k = told r e d in
        let g = (taken_by p t f.progress).progress in
        let same = e ∙ taken_goes p t f k in
        let there = ap (λ (y : Pathed). y.progress) same in
        record {
          few = let u = w.few in omega arith;
          whole =
              opens
              ∙ ap (λ (b : Bool). onto f (cond b (record { beyond = true; entries = []; progress = f.progress }) (after (entries_by p t f.progress) (path_from p (left - 1) (next_of p.automaton g.state) g)))) k
              ∙ onto_after f (step p t f) (path_from p (left - 1) (next_of p.automaton g.state) g)
              ∙ ap (λ (y : Pathed). onto y (path_from p (left - 1) (next_of p.automaton y.progress.state) y.progress)) (sym same)
              ∙ ap (λ (x : Next). onto r (path_from p (left - 1) x r.progress)) (sym n);
          going = d;
          count =
              let u = taken_few p t f limits named k in
              let v = ap (λ (y : Pathed). y.count) e in
              let x = w.count in
              omega arith;
          limits = subst (ProgressIn p) (sym there) (taken_kept p t f.progress limits named w.limits k);
          leads = subst (Leads p.automaton.count) (sym n) (next_leads p.automaton r.progress.state);
        }
