-- `words::with` meets its contract: `|` with a power of two sets bit m and no other. Assumes nothing.
use mathlib.Core.Logic.{inl, inr, ⊎_elim}
use Prim.Native.Nat.{◌*◌, ◌^◌, ◌%◌}
use Rattle.activity.proofs.Laws.Bits.{or_iff, shl_iff}
use Rattle.activity.proofs.words.with.Goals as goal

pub returns : goal.returns
returns c j =
    let i = or_iff c.args.w (1 * 2 ^ c.args.m % 2 ^ 64) j in
    let p = shl_iff c.args.m j c.requires in
    (λ e. ⊎_elim inl (λ b. inr (p.0 b)) (i.0 e), λ s. i.1 (⊎_elim inl (λ q. inr (p.1 q)) s))
