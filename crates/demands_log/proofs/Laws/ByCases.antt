-- What holds of each case of a choice of the definitions holds of the choice.
use Rattle.std.specs.Prelude.{◌≡◌, refl, ℕ, Option, Some, None}
use Rattle.std.proofs.Common.{arith}
use Rattle.automaton.specs.declared.Next.{Next}
use Rattle.run_window.specs.Window.{on_found}
use Rattle.run_window.specs.declared.Entry.{Entry}
use Rattle.run_window.specs.declared.Found.{Found}
use Rattle.run_checks.specs.declared.Stop.{Stop}
use Rattle.run.specs.Loading.{on_way}
use Rattle.run.specs.Calls.{on_halt}

pub by_found : {A : Type 0} (P : A → Type 0) (r : Option Found) (f : ℕ → Entry → A) (z : A) → ((i : ℕ) (e : Entry) → P (f i e)) → P z → P (on_found r f z)
by_found P None f z p q = q
by_found P (Some x) f z p q = p x.place x.entry

pub by_way : {A : Type 0} (P : A → Type 0) (n : Next) (f : ℕ → A) (z : A) → ((t : ℕ) → n ≡ Next.Goes t → P (f t)) → (((t : ℕ) → n ≡ Next.Goes t → ⊥) → P z) → P (on_way n f z)
by_way P Next.Ended f z k g = g (λ t e. let z : ◌≡◌ {A = ℕ} 0 1 = cc in omega arith)
by_way P (Next.Goes t) f z k g = k t refl
by_way P (Next.Waits x) f z k g = g (λ t e. let z : ◌≡◌ {A = ℕ} 0 1 = cc in omega arith)

pub by_halt : {A : Type 0} (P : A → Type 0) (h : Option Stop) (f : Stop → A) (z : A) → ((s : Stop) → h ≡ Some s → P (f s)) → (h ≡ None → P z) → P (on_halt h f z)
by_halt P None f z k g = g refl
by_halt P (Some s) f z k g = k s refl
