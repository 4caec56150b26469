-- What a message must hold to be written: nothing but its map and its number can be at fault.
use Rattle.std.specs.Prelude.{◌≡◌, Bool, cond, ◌↔◌, ℕ, ◌^◌, ◌<◌, get_or}
use Rattle.std.proofs.Math.Path.{refl}
use Rattle.std.proofs.Common.{sym}
use Rattle.std.proofs.Math.Bool.{true, false, not}
use Rattle.basis.proofs.Laws.Bools.{and_left, and_right, and_both, clash}
use Rattle.wire.specs.Map.{bit}
use Rattle.format.specs.Format.{◌when◌, number, optional, good, first, Holds, keeps}
use Rattle.format.proofs.Laws.Format.{given_iff, last_iff, keeps_iff}
use Rattle.link_messages.specs.declared.Message.{Message}
use Rattle.link_messages.specs.Message.{widths, Direction, standing, fields, message, fault_order}
use Rattle.link_messages.specs.Writing.{Fits, permits}
use Rattle.link_messages.proofs.Laws.Parts.{free, ended, from_number, from_activity, from_outcome, from_node, from_position}

-- a fault 61 by a test
good_61 : (t : Bool) → (first fault_order (61 when not t) ≡ good) ↔ (t ≡ true)
good_61 true = ((λ e. refl), λ e. refl)
good_61 false = ((λ e. cc), λ e. clash (sym e))

module _ (d : Direction) (s : Message) (fits : Fits s) where
  free_holds : (i : ℕ) (get : Message → ℕ) → get s < 256 ^ get_or widths i 0 → Holds fault_order (standing s.map i get free) s
  unfolding Holds
  free_holds i get l = go (bit i s.map)
    where
      go : (t : Bool) → Holds fault_order (optional t 0 (number (get_or widths i 0) get free)) s
      go true = (l, refl, tt)
      go false = tt

  number_iff : Holds fault_order (standing s.map 5 (λ u. u.number) (λ x. 61 when not (d.answers s.map x))) s
      ↔ (cond (bit 5 s.map) (d.answers s.map s.number) true ≡ true)
  unfolding Holds
  number_iff = go (bit 5 s.map)
    where
      go : (t : Bool) → Holds fault_order (optional t 0 (number 1 (λ u. u.number) (λ x. 61 when not (d.answers s.map x)))) s
          ↔ (cond t (d.answers s.map s.number) true ≡ true)
      go true = ((λ h. (good_61 (d.answers s.map s.number)).0 h.1), λ e. (fits.number, (good_61 (d.answers s.map s.number)).1 e, tt))
      go false = ((λ h. refl), λ e. tt)

  fields_iff : Holds fault_order (fields d s.map) s ↔ (cond (bit 5 s.map) (d.answers s.map s.number) true ≡ true)
  unfolding Holds
  fields_iff =
      given_iff fault_order (standing s.map 0 (λ u. u.reading) free) (from_position d s.map) s _ refl (free_holds 0 (λ u. u.reading) fits.reading)
      (given_iff fault_order (standing s.map 1 (λ u. u.position) free) (from_node d s.map _) s _ refl (free_holds 1 (λ u. u.position) fits.position)
      (given_iff fault_order (standing s.map 2 (λ u. u.node) free) (from_outcome d s.map _ _) s _ refl (free_holds 2 (λ u. u.node) fits.node)
      (given_iff fault_order (standing s.map 3 (λ u. u.outcome) free) (from_activity d s.map _ _ _) s _ refl (free_holds 3 (λ u. u.outcome) fits.outcome)
      (given_iff fault_order (standing s.map 4 (λ u. u.activity) free) (from_number d s.map _ _ _ _) s _ refl (free_holds 4 (λ u. u.activity) fits.activity)
      (last_iff fault_order (standing s.map 5 (λ u. u.number) (λ x. 61 when not (d.answers s.map x))) (ended d s.map _ _ _ _ _) s (λ x. tt) number_iff)))))

  pub holds_iff : Holds fault_order (message d) s ↔ ((d.listed s.map ≡ true) × (cond (bit 5 s.map) (d.answers s.map s.number) true ≡ true))
  unfolding Holds
  holds_iff = (
    (λ h. ((good_61 (d.listed s.map)).0 h.1, fields_iff.0 h.2)),
    λ q. (fits.map, (good_61 (d.listed s.map)).1 q.0, fields_iff.1 q.1),
  )

  -- the test of the whole message
  pub keeps_permits : keeps fault_order (message d) s ≡ permits d s.map s.number
  keeps_permits = go (keeps fault_order (message d) s) (keeps_iff fault_order (message d) s)
    where
      go : (t : Bool) → (t ≡ true) ↔ Holds fault_order (message d) s → t ≡ permits d s.map s.number
      go true k = let h = holds_iff.0 (k.0 refl) in sym (and_both _ _ h.0 h.1)
      go false k = by (permits d s.map s.number) refl
        where
          by : (u : Bool) → permits d s.map s.number ≡ u → false ≡ permits d s.map s.number
          by true e = clash (sym (k.1 (holds_iff.1 (and_left _ _ e, and_right (d.listed s.map) _ e))))
          by false e = sym e
