-- An opening that is there whole: its numbers, and that the input holds what stands before the parts.
use Rattle.std.specs.Prelude.{◌≡◌, false, List, ℕ, ◌+◌, ◌*◌, ◌≤◌, length, Some, None}
use Rattle.std.proofs.Common.{sym, subst, arith, le-leb}
use Rattle.std.proofs.Math.Decide.{dec_le}
use Rattle.std.proofs.lemmas.Bool.{lt-leb}
use Rattle.drive_input.specs.declared.Head.{Head}
use Rattle.drive_input.specs.Input.{parts_at, is_whole, head, head_of}

pub record Whole (b : List ℕ) (h : Head) : Type 0 where
  pub is : h ≡ head b
  pub fits : parts_at b ≤ length b

pub whole_is : (b : List ℕ) (h : Head) → head_of b ≡ Some h → Whole b h
unfolding head_of
whole_is b h e =
    elim (dec_le (parts_at b) (length b)) [
      | yes f ↦
          let w : Some (head b) ≡ Some h = rw (le-leb (parts_at b) (length b) f) at e in
          record { is = cc; fits = f }
      | no f ↦
          let w : None ≡ Some h = rw (lt-leb (parts_at b) (length b) (omega arith)) at e in
          let z : ◌≡◌ {A = ℕ} 0 1 = cc in
          absurd (omega arith)
    ]

pub whole_fits : (b : List ℕ) (h : Head) → head_of b ≡ Some h → h.length + 19 + 8 * h.count ≤ length b
whole_fits b h e = let w = whole_is b h e in subst (λ (g : Head). g.length + 19 + 8 * g.count ≤ length b) (sym w.is) w.fits

pub whole_parts : (b : List ℕ) (h : Head) → head_of b ≡ Some h → h.parts ≤ length b
whole_parts b h e = let w = whole_is b h e in subst (λ (g : Head). g.parts ≤ length b) (sym w.is) w.fits

pub not_whole : (b : List ℕ) → head_of b ≡ None → is_whole b ≡ false
unfolding head_of
not_whole b e =
    elim (dec_le (parts_at b) (length b)) [
      | yes f ↦
          let w : Some (head b) ≡ None = rw (le-leb (parts_at b) (length b) f) at e in
          let z : ◌≡◌ {A = ℕ} 0 1 = cc in
          absurd (omega arith)
      | no f ↦ lt-leb (parts_at b) (length b) (omega arith)
    ]
