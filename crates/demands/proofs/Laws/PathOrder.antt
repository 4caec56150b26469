-- `in_order`: the entries of a path rise strictly, by position and then node. They stand from the position at which the path begins
-- up to the one at which it ends.
use Rattle.std.specs.Prelude.{◌≡◌, refl, List, [], ◌∷◌, ◌++◌, ℕ, zero, suc, ◌≤◌, ◌<◌, length, get_or}
use Rattle.std.proofs.Common.{ap, subst, inl, inr, ⊎_elim, arith}
use Rattle.basis.specs.Lists.{Among}
use Rattle.basis.proofs.Laws.Bools.{by_test}
use Rattle.basis.proofs.Laws.Lists.{among_at, at_among, among_either}
use Rattle.plan.specs.Plan.{move, emitted_by}
use Rattle.plan.specs.declared.Plan.{Plan}
use Rattle.automaton.specs.Next.{next_of}
use Rattle.automaton.specs.declared.Next.{Next}
use Rattle.times.specs.declared.Progress.{Progress}
use Rattle.run_window.specs.Window.{vacant}
use Rattle.run_window.specs.declared.Entry.{Entry}
use Rattle.run_path.specs.Path.{Path, taken_by, entries_by, activity_number, path_from}
use Rattle.demands_run.proofs.Laws.Taken.{next_position}
use Rattle.demands_run.proofs.Laws.Entries.{brought, rises}
use Rattle.demands.specs.Places.{Sooner, Rising, StatementInOrder}

-- the entries of one transition stand at its position
at_position : (p : Plan) (t : ℕ) (g : Progress) (e : Entry) → Among e (entries_by p t g) → e.position ≡ g.position
at_position p t g e m = ap (λ (x : Entry). x.position) (brought g.position _ _ 0 _ e m).entry

one_transition : (p : Plan) (t : ℕ) (g : Progress) → Rising (entries_by p t g)
one_transition p t g k l h m =
    let here : (j : ℕ) → j < length (entries_by p t g) → (get_or (entries_by p t g) j vacant).position ≡ g.position = λ j n. at_position p t g _ (among_at vacant (entries_by p t g) j n) in
    let u = here k (omega arith) in
    let v = here l m in
    inr (omega arith, rises g.position (activity_number (move p.automaton t).output) (taken_by p t g).schedule 0 (emitted_by p (move p.automaton t).output) k l h m)

-- those of the rest of the path stand behind them
joined : (q : ℕ) (xs ys : List Entry) → Rising xs → ((e : Entry) → Among e xs → e.position ≡ q) → Rising ys → ((e : Entry) → Among e ys → q < e.position) → Rising (xs ++ ys)
joined q [] ys a here b later k l h m = b k l h m
joined q (x ∷ xs) ys a here b later zero zero h m = absurd (omega arith)
joined q (x ∷ xs) ys a here b later zero (suc l) h m = ⊎_elim among_first among_rest (among_either behind xs ys (among_at vacant (xs ++ ys) l (omega arith)))
  where
    behind : Entry
    behind = get_or (xs ++ ys) l vacant

    among_first : Among behind xs → Sooner x behind
    among_first i = let r = at_among vacant behind xs i in subst (Sooner x) r.2 (a 0 (suc r.0) (omega arith) (let u = r.1 in omega arith))

    among_rest : Among behind ys → Sooner x behind
    among_rest i = inl (let u = here x (inl refl) in let v = later behind i in omega arith)
joined q (x ∷ xs) ys a here b later (suc k) zero h m = absurd (omega arith)
joined q (x ∷ xs) ys a here b later (suc k) (suc l) h m =
    joined q xs ys (λ i j n o. a (suc i) (suc j) (omega arith) (omega arith)) (λ e i. here e (inr i)) b later k l (omega arith) (omega arith)

record OfPath (from : ℕ) (q : Path) : Type 0 where
  rising : Rising q.entries
  onward : from ≤ q.progress.position
  above : (e : Entry) → Among e q.entries → from ≤ e.position
  below : (e : Entry) → Among e q.entries → e.position < q.progress.position

no_entries : (from : ℕ) (q : Path) → q.entries ≡ [] → from ≤ q.progress.position → OfPath from q
no_entries from q z l = record {
  rising = rw z (λ k l h m. absurd (omega arith));
  onward = l;
  above = rw z (λ e m. absurd m);
  below = rw z (λ e m. absurd m);
}

of_path : (p : Plan) (k : ℕ) (next : Next) (g : Progress) → OfPath g.position (path_from p k next g)
unfolding path_from
of_path p zero next g = no_entries _ _ refl (omega arith)
of_path p (suc k) Next.Ended g = no_entries _ _ refl (omega arith)
of_path p (suc k) (Next.Waits e) g = no_entries _ _ refl (omega arith)
of_path p (suc k) (Next.Goes t) g =
    let r = of_path p k (next_of p.automaton (taken_by p t g).progress.state) (taken_by p t g).progress in
    let n = next_position p t g in
    let o = r.onward in
    by_test (OfPath g.position) (taken_by p t g).beyond _ _ (λ b. no_entries _ _ refl (omega arith))
    (λ b. record {
      rising = joined g.position (entries_by p t g) _ (one_transition p t g) (at_position p t g) r.rising (λ e m. let u = r.above e m in omega arith);
      onward = omega arith;
      above = λ e m. ⊎_elim (λ h. let u = at_position p t g e h in omega arith) (λ h. let u = r.above e h in omega arith) (among_either e (entries_by p t g) _ m);
      below = λ e m. ⊎_elim (λ h. let u = at_position p t g e h in omega arith) (λ h. r.below e h) (among_either e (entries_by p t g) _ m);
    })

module _ (p : Plan) (most : ℕ) (next : Next) (g : Progress) where
  pub path_onward : g.position ≤ (path_from p most next g).progress.position
  path_onward = (of_path p most next g).onward

  pub path_from_lem : (e : Entry) → Among e (path_from p most next g).entries → g.position ≤ e.position
  path_from_lem = (of_path p most next g).above

  -- where it comes to a limit too
  pub path_up_to : (e : Entry) → Among e (path_from p most next g).entries → e.position < (path_from p most next g).progress.position
  path_up_to = (of_path p most next g).below

pub in_order : StatementInOrder
in_order p most next g = (of_path p most next g).rising
