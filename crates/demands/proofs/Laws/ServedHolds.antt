-- `order_served`, `served`, `served_late`: an ask starts, and stop 41 names, the node that is served first.
use Rattle.std.specs.Prelude.{◌≡◌, refl, Bool, true, false, ◌⊎◌, ℕ, ◌<◌, Some, None}
use Rattle.std.proofs.Common.{sym, ◌∙◌, ap, true≢false, inl, inr, arith}
use Rattle.time.specs.declared.Clock.{Clock}
use Rattle.run_window.specs.Window.{is_held, starts_before}
use Rattle.run_window.proofs.Laws.Order.{neither_before}
use Rattle.run_checks.specs.declared.Stop.{Stop}
use Rattle.run.specs.declared.Run.{Run}
use Rattle.run.specs.declared.Call.{Call}
use Rattle.run.specs.declared.Reply.{Reply}
use Rattle.run.specs.Calls.{reading_of, kind_of}
use Rattle.demands.specs.Conditions.{entry_at, DueAt, LateAt, FirstOf, Halts, Asks}
use Rattle.demands.specs.InLimits.{RunInLimits}
use Rattle.demands.specs.Served.{Alike, turn_at, ServedFirst, FirstServed, StatementOrder, StatementServed, StatementServedLate}
use Rattle.demands.proofs.Laws.ServedOrder.{Numbered, kind_numbered, served_iff, same_alike}
use Rattle.demands.proofs.Laws.ConditionsHold.{late, start}

module _ (run : Run) (limits : RunInLimits run) where
  numbered : (i : ℕ) → is_held (entry_at run i).phase ≡ true → Numbered (kind_of run (entry_at run i))
  numbered i h =
      let e = limits.window i (entry_at run i) (record { entry = refl; held = h }) in
      kind_numbered run.plan limits.plan (kind_of run (entry_at run i)) (limits.plan.nodes (entry_at run i).activity (entry_at run i).node e.activity e.node).names

  -- the first of some places is the one that is served first
  module _ (P : ℕ → Type 0) (held : (i : ℕ) → P i → is_held (entry_at run i).phase ≡ true) where
    first_served : (i : ℕ) → FirstOf run P (starts_before run.plan.nodes) i → FirstServed run P i
    first_served i f = record { has = f.has; first = λ j h n. go j h n (starts_before run.plan.nodes (entry_at run i) (entry_at run j)) refl }
      where
        go : (j : ℕ) → P j → (j ≡ i → ⊥) → (b : Bool) → starts_before run.plan.nodes (entry_at run i) (entry_at run j) ≡ b
            → ServedFirst run i j ⊎ (Alike (turn_at run i) (turn_at run j) × (i < j))
        go j h n true q = inl ((served_iff (turn_at run i) (turn_at run j) (numbered i (held i f.has)) (numbered j (held j h))).0 q)
        go j h n false q = inr (same_alike (turn_at run i) (turn_at run j) (numbered i (held i f.has)) (numbered j (held j h)) (neither_before _ _ q (f.first j h)), above)
          where
            above : i < j
            above = let low : (j < i → ⊥) = λ l. true≢false (sym (f.lowest j h l) ∙ q) in omega arith

pub order_served : StatementOrder
order_served run limits i j h k = served_iff (turn_at run i) (turn_at run j) (numbered run limits i h) (numbered run limits j k)

pub served : StatementServed
served run t p a n q = go ((start run (Call.Ask t) p a n).0 q)
  where
    go : {t : Clock} {p a n : ℕ} → Asks run (Call.Ask t) (Reply.Start p a n) → (i : ℕ) × ((entry_at run i).position ≡ p) × ((entry_at run i).activity ≡ a) × ((entry_at run i).node ≡ n) × FirstServed run (DueAt run t) i
    go (Asks.starts {t} i h f) = (i, refl, refl, refl, first_served run h.not_overdue.rises.going.limits (DueAt run t) (λ j d. ap is_held d.unstarted) i f)

pub served_late : StatementServedLate
served_late run c p n going q = go c ((late run c p n).0 q)
  where
    go : (c : Call) {p n : ℕ} → Halts run c (Stop.Late p n) → (i : ℕ) × ((entry_at run i).position ≡ p) × ((entry_at run i).node ≡ n) × FirstServed run (LateAt run (reading_of c)) i
    go c (Halts.kept l h) = absurd (never (sym going ∙ h))
      where
        never : {s : Stop} → None ≡ Some s → ⊥
        never r = let z : ◌≡◌ {A = ℕ} 0 1 = cc in omega arith
    go c (Halts.number41 i h f) = (i, refl, refl, first_served run h.rises.going.limits (LateAt run (reading_of c)) (λ j d. ap is_held d.unstarted) i f)
