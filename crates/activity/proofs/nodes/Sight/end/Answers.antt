-- `nodes::Sight::end` meets its contract: at each return, what holds and the first thing that does not. Assumes nothing.
use mathlib.Core.Path.{sym, ap, subst}
use mathlib.Core.Bool.{not}
use Prim.Native.Nat.{ℕ}
use Rattle.basis.proofs.Laws.Tells.{granted, refuted, told_true, told_false}
use Rattle.activity.specs.Inner.Bits.{Bit}
use Rattle.activity.proofs.Numbering.{claim_end, release_end, end_twice, end_unpaired, end_passed, end_good}
use Rattle.activity.proofs.nodes.Sight.end.Goals as goal

pub returns-then-not-alone : goal.returns-then-not-alone
returns-then-not-alone c =
    record {
      claim = λ q past pair belongs a n i h free. end_twice belongs a n free _ _ (claim_end belongs a n q i) (refuted (c.alone.ensures belongs a n h) (ap not c.if-not-alone.true));
      release = λ q past pair belongs a n i h free. end_twice belongs a n free _ _ (release_end belongs a n q i) (refuted (c.alone.ensures belongs a n h) (ap not c.if-not-alone.true));
    }

pub returns-then-not-paired : goal.returns-then-not-paired
returns-then-not-paired c =
    record {
      claim = λ q past pair belongs a n i h free.
          end_unpaired belongs a n free _ _ (claim_end belongs a n q i) (granted (c.alone.ensures belongs a n h) (ap not c.if-not-alone.false)) (told_false (pair belongs a n h) c.if-not-paired.true);
      release = λ q past pair belongs a n i h free.
          end_unpaired belongs a n free _ _ (release_end belongs a n q i) (granted (c.alone.ensures belongs a n h) (ap not c.if-not-alone.false)) (told_false (pair belongs a n h) c.if-not-paired.true);
    }

pub returns-then-any : goal.returns-then-any
returns-then-any c =
    let w = told_true c.any.ensures c.if-any.true in
    record {
      claim = λ q past pair belongs a n i h free.
          end_passed belongs a n free _ _ (claim_end belongs a n q i) (granted (c.alone.ensures belongs a n h) (ap not c.if-not-alone.false)) (told_true (pair belongs a n h) c.if-not-paired.false)
          (λ f. f w.0 ((h.before w.0).0 (subst (λ (x : ℕ). Bit x w.0) past w.1)));
      release = λ q past pair belongs a n i h free.
          end_passed belongs a n free _ _ (release_end belongs a n q i) (granted (c.alone.ensures belongs a n h) (ap not c.if-not-alone.false)) (told_true (pair belongs a n h) c.if-not-paired.false)
          (λ f. f w.0 ((h.after w.0).0 (subst (λ (x : ℕ). Bit x w.0) past w.1)));
    }

pub returns : goal.returns
returns c =
    let no_bit = told_false c.any.ensures c.if-any.false in
    record {
      claim = λ q past pair belongs a n i h free.
          end_good belongs a n free _ _ (claim_end belongs a n q i) (granted (c.alone.ensures belongs a n h) (ap not c.if-not-alone.false)) (told_true (pair belongs a n h) c.if-not-paired.false)
          (λ m b. no_bit (m, subst (λ (x : ℕ). Bit x m) (sym past) ((h.before m).1 b)));
      release = λ q past pair belongs a n i h free.
          end_good belongs a n free _ _ (release_end belongs a n q i) (granted (c.alone.ensures belongs a n h) (ap not c.if-not-alone.false)) (told_true (pair belongs a n h) c.if-not-paired.false)
          (λ m b. no_bit (m, subst (λ (x : ℕ). Bit x m) (sym past) ((h.after m).1 b)));
    }
