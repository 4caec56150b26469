-- Runs that differ in nothing but the places of their nodes, and what their loading does: they fail alike, or stay so.
use Rattle.std.specs.Prelude.{◌≡◌, refl, true, List, ℕ, zero, suc, ◌≤◌, ◌<◌, ltb, length, get_or, set, Option, Some, None}
use Rattle.std.proofs.Common.{sym, ◌∙◌, subst, inl, inr, ⊎_elim, arith, ltb-false, length-set}
use Rattle.std.proofs.Math.Decide.{dec_lt}
use Rattle.basis.proofs.Laws.Bools.{by_same}
use Rattle.basis.proofs.Laws.Lists.{among_at}
use Rattle.automaton.specs.Next.{next_of}
use Rattle.automaton.specs.declared.Next.{Next}
use Rattle.times.specs.declared.Progress.{Progress}
use Rattle.run_window.specs.declared.Entry.{Entry}
use Rattle.run_window.specs.Window.{vacant, is_held, placed, vacancies}
use Rattle.run_window.specs.Places.{Holds}
use Rattle.run_window.proofs.Laws.Places.{SameNode, stored_once}
use Rattle.run_window.proofs.Laws.Placed.{Different, Unheld, placed_length, placed_only, placed_once}
use Rattle.run_window.proofs.Laws.Content.{same_room, stored_within, placed_within}
use Rattle.run_path.specs.Path.{Path, path_from, longest_path}
use Rattle.run_outcomes.specs.Way.{way_on}
use Rattle.run_loading.specs.declared.Failure.{Failure}
use Rattle.run.specs.declared.Run.{Run}
use Rattle.run.specs.Loading.{Loading, loading, load, on_way, on_failure, on_loading, further}
use Rattle.demands.specs.Places.{Sooner, Rising}
use Rattle.demands.specs.RepliesByContent.{SameContent, OtherPlaces}
use Rattle.demands.proofs.Laws.PathOrder.{path_onward, path_from_lem, path_up_to, in_order}

-- ---- the windows

-- the same is stored where an entry stands: its own node, or nothing
pub content_stored : (w v : List Entry) → SameContent w v → (i j : ℕ) (e x : Entry) → Holds w i e → Holds v j e → (is_held x.phase ≡ true → SameNode x e) → SameContent (set w i x) (set v j x)
content_stored w v c i j e x p q own = record {
  size = length-set w i x ∙ (c.size ∙ sym (length-set v j x));
  there = stored_within w v c.there c.once.0 i j e x p q;
  back = stored_within v w c.back c.once.1 j i e x q p;
  once = (stored_once w i x c.once.0 (λ h. (e, p, own h)), stored_once v j x c.once.1 (λ h. (e, q, own h)));
}

-- as many places are free
room : (w v : List Entry) → SameContent w v → vacancies w ≡ vacancies v
room w v c = same_room w v c.size c.there c.back c.once.0 c.once.1

-- new nodes take places, in both as many
content_placed : (w v es : List Entry) → SameContent w v → Different es → Unheld w es → length es ≤ vacancies w → SameContent (placed w es) (placed v es)
content_placed w v es c different unheld fits = record {
  size = placed_length w es ∙ (c.size ∙ sym (placed_length v es));
  there = placed_within w v es c.there (subst (λ (n : ℕ). length es ≤ n) (room w v c) fits);
  back = placed_within v w es c.back fits;
  once = (placed_once w es c.once.0 different unheld, placed_once v es c.once.1 different (λ j k f h. let b = c.back j f h in unheld b.0 k f b.1));
}

-- "by position and then node": no node of a path comes twice
rising_different : (es : List Entry) → Rising es → Different es
rising_different es rises k l hk hl (p, n) = go (dec_lt k l) (dec_lt l k)
  where
    not_sooner : (e f : Entry) → e.position ≡ f.position → e.node ≡ f.node → Sooner e f → ⊥
    not_sooner e f p n (inl s) = omega arith
    not_sooner e f p n (inr s) = let u = s.1 in omega arith

    go : Dec (k < l) → Dec (l < k) → k ≡ l
    go (yes u) d = absurd (not_sooner (get_or es k vacant) (get_or es l vacant) p n (rises k l u hl))
    go (no u) (yes s) = absurd (not_sooner (get_or es l vacant) (get_or es k vacant) (sym p) (sym n) (rises l k s hk))
    go (no u) (no s) = omega arith

-- ---- the runs

-- the run with the window v
abbrev pub with_window : Run → List Entry → Run
with_window run v = record { plan = run.plan; psi = run.psi; slack = run.slack; progress = run.progress; window = v; last = run.last; halt = run.halt }

-- the nodes stand at positions before the next one
abbrev pub Before : Progress → List Entry → Type 0
Before g w = (i : ℕ) (e : Entry) → Holds w i e → e.position < g.position

-- run b is run a but for its window, which holds the same
pub record Like (a b : Run) : Type 0 where
  pub rest : b ≡ with_window a b.window
  pub content : SameContent a.window b.window
  pub loaded : Before a.progress a.window

pub like_runs : (run other : Run) → OtherPlaces run other → Like run other
like_runs run other h = record {
  rest = rw (h.plan, h.psi, h.slack, h.progress, h.last, h.halt);
  content = h.content;
  loaded = h.loaded;
}

-- ---- loading

pub record LikeLoading (l m : Loading) : Type 0 where
  pub failure : l.failure ≡ m.failure
  pub run : Like l.run m.run

module _ (run : Run) (v : List Entry) (c : SameContent run.window v) (old : Before run.progress run.window) (next : Next) where
  abbrev path : Path
  path = path_from run.plan longest_path next run.progress

  -- its nodes stand from the next position on, before the one that is next behind it
  position_of : (k : ℕ) → k < length path.entries → (run.progress.position ≤ (get_or path.entries k vacant).position) × ((get_or path.entries k vacant).position < path.progress.position)
  position_of k l =
      let m = among_at vacant path.entries k l in
      (path_from_lem run.plan longest_path next run.progress _ m, path_up_to run.plan longest_path next run.progress _ m)

  unheld : Unheld run.window path.entries
  unheld j k f h l q = let a = old j f h in let b = (position_of k l).0 in let z = q.0 in omega arith

  placed_before : Before path.progress (placed run.window path.entries)
  placed_before i e h =
      ⊎_elim (λ g. let a = old i e g in let b = path_onward run.plan longest_path next run.progress in omega arith)
      (λ t. subst (λ (x : Entry). x.position < path.progress.position) (sym t.1) (position_of t.0.number t.0.listed).1)
      (placed_only run.window path.entries i e h)

  load_like : LikeLoading (load run next) (load (with_window run v) next)
  unfolding load
  load_like =
      by_same LikeLoading path.beyond _ _ _ _ (λ b. as_before (Some Failure.Beyond)) λ b.
      rw (sym (room run.window v c))
      (by_same LikeLoading (ltb (vacancies run.window) (length path.entries)) _ _ _ _ (λ f. as_before (Some Failure.Full)) λ f. record {
        failure = refl;
        run = record {
          rest = refl;
          content = content_placed run.window v path.entries c (rising_different path.entries (in_order run.plan longest_path next run.progress)) unheld (ltb-false _ _ f);
          loaded = placed_before;
        };
      })
    where
      as_before : (f : Option Failure) → LikeLoading (loading f run) (loading f (with_window run v))
      as_before f = record { failure = refl; run = record { rest = refl; content = c; loaded = old } }

-- a failure ends both, otherwise both go on
like_on : (l m : Loading) (f : Run → Loading) → LikeLoading l m → ((a b : Run) → Like a b → LikeLoading (f a) (f b)) → LikeLoading (on_loading l f) (on_loading m f)
like_on l m f h more = subst (λ (x : Option Failure). LikeLoading (on_loading l f) (on_failure x m (f m.run))) h.failure (go l.failure)
  where
    go : (x : Option Failure) → LikeLoading (on_failure x l (f l.run)) (on_failure x m (f m.run))
    go None = more l.run m.run h.run
    go (Some Failure.Full) = h
    go (Some Failure.Beyond) = h

pub further_like : (k : ℕ) (a b : Run) → Like a b → LikeLoading (further k a) (further k b)
unfolding further
further_like zero a b r = record { failure = refl; run = r }
further_like (suc k) a b r =
    subst (λ (x : Run). LikeLoading (further (suc k) a) (further (suc k) x)) (sym r.rest)
    (go (way_on a.plan.automaton a.progress (next_of a.plan.automaton a.progress.state)) (further_like k))
  where
    other : Run
    other = with_window a b.window

    same : LikeLoading (loading None a) (loading None other)
    same = record { failure = refl; run = record { rest = refl; content = r.content; loaded = r.loaded } }

    go : (n : Next) → ((x y : Run) → Like x y → LikeLoading (further k x) (further k y)) → LikeLoading (on_way n (λ t. on_loading (load a (Next.Goes t)) (further k)) (loading None a)) (on_way n (λ t. on_loading (load other (Next.Goes t)) (further k)) (loading None other))
    go Next.Ended more = same
    go (Next.Waits e) more = same
    go (Next.Goes t) more = like_on _ _ (further k) (load_like a b.window r.content r.loaded (Next.Goes t)) more
