-- The values in the bytes of a made-up run. Bytes past the end count as 0, and a tag is taken modulo the number of its
-- cases: any bytes are a run.
use Rattle.std.specs.Prelude.{cond, List, [], ◌∷◌, ℕ, zero, suc, ◌+◌, ◌%◌, get_or, eqb}
use Rattle.wire.specs.Number.{little}
use Rattle.time.specs.declared.Specified.{Specified}
use Rattle.plan.specs.declared.Kind.{Kind}
use Rattle.plan.specs.declared.Node.{Node}
use Rattle.plan.specs.declared.Input.{Input}
use Rattle.plan.specs.declared.Output.{Output}
use Rattle.plan.specs.declared.Transition.{Transition}
use Rattle.times.specs.declared.Told.{Told}
use Rattle.times.specs.declared.Instance.{Instance}
use Rattle.run_window.specs.declared.Phase.{Phase}
use Rattle.run_window.specs.declared.Entry.{Entry}

abbrev pub byte_at : List ℕ → ℕ → ℕ
byte_at b at = get_or b at 0

abbrev pub time_at : List ℕ → ℕ → Specified
time_at b at = record { 0 = little 8 b at }

-- n values of `size` bytes each, from `at` on
unfoldable pub array_at : {A : Type 0} → (List ℕ → ℕ → A) → ℕ → ℕ → List ℕ → ℕ → List A
array_at one size zero b at = []
array_at one size (suc n) b at = one b at ∷ array_at one size n b (at + size)

-- ---- a node

unfoldable pub kind_of : ℕ → ℕ → ℕ → Kind
kind_of tag x y =
    cond (eqb (tag % 4) 0) (Kind.Action x y)
    (cond (eqb (tag % 4) 1) (Kind.Claim x) (cond (eqb (tag % 4) 2) (Kind.Release x) (Kind.Event x)))

unfoldable pub node_at : List ℕ → ℕ → Node
node_at b at = record {
  kind = kind_of (byte_at b at) (byte_at b (at + 1)) (byte_at b (at + 2));
  duration = little 4 b (at + 3);
  count = byte_at b (at + 7);
  preds = array_at byte_at 1 8 b (at + 8);
}

-- ---- a transition

unfoldable pub input_of : ℕ → ℕ → ℕ → Input
input_of tag event outcome = cond (eqb (tag % 2) 0) Input.Nothing (Input.Outcome event outcome)

unfoldable pub output_of : ℕ → ℕ → Output
output_of tag activity = cond (eqb (tag % 2) 0) Output.Empty (Output.Activity activity)

unfoldable pub move_at : List ℕ → ℕ → Transition
move_at b at = record {
  from = byte_at b at;
  to = byte_at b (at + 1);
  input = input_of (byte_at b (at + 2)) (byte_at b (at + 3)) (byte_at b (at + 4));
  output = output_of (byte_at b (at + 5)) (byte_at b (at + 6));
}

-- ---- a pending instance

unfoldable pub told_of : ℕ → ℕ → Told
told_of tag outcome = cond (eqb (tag % 2) 0) Told.Nothing (Told.Outcome outcome)

unfoldable pub instance_at : List ℕ → ℕ → Instance
instance_at b at = record {
  position = little 4 b at;
  node = byte_at b (at + 4);
  end = time_at b (at + 5);
  told = told_of (byte_at b (at + 13)) (byte_at b (at + 14));
}

-- ---- a place of the window

unfoldable pub phase_of : ℕ → Phase
phase_of tag = cond (eqb (tag % 3) 0) Phase.Free (cond (eqb (tag % 3) 1) Phase.Loaded Phase.Started)

unfoldable pub entry_at : List ℕ → ℕ → Entry
entry_at b at = record {
  phase = phase_of (byte_at b at);
  position = little 4 b (at + 1);
  activity = byte_at b (at + 5);
  node = byte_at b (at + 6);
  start = time_at b (at + 7);
  end = time_at b (at + 15);
}
