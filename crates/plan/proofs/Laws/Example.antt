-- Plan T of document 01, as bytes and as a plan.
use Rattle.std.specs.Prelude.{List, [], ◌∷◌, ◌++◌, ℕ, replicate}
use Rattle.plan.specs.declared.Plan.{Plan}
use Rattle.plan.specs.declared.Kind.{Kind}
use Rattle.plan.specs.declared.Node.{Node}
use Rattle.plan.specs.declared.Input.{Input}
use Rattle.plan.specs.declared.Output.{Output}
use Rattle.plan.specs.Plan.{past_move}
use Rattle.plan.specs.Nodes.{zero_node}

-- "Plan T, 93 bytes"
abbrev pub bytes_of_t : List ℕ
bytes_of_t =
    31 ∷ 2 ∷ 3 ∷ 0 ∷ 0 ∷ 1 ∷ 1 ∷ 2 ∷ 2 ∷ 7 ∷ 2 ∷ 0 ∷ 2 ∷ 1 ∷ 49 ∷ 0 ∷ 2 ∷ 184 ∷ 11 ∷ 0 ∷ 0 ∷ 1 ∷ 1 ∷ 49 ∷
    1 ∷ 0 ∷ 136 ∷ 19 ∷ 0 ∷ 0 ∷ 2 ∷ 0 ∷ 2 ∷ 56 ∷ 0 ∷ 232 ∷ 3 ∷ 0 ∷ 0 ∷ 1 ∷ 3 ∷ 36 ∷ 0 ∷ 1 ∷ 3 ∷ 36 ∷ 1 ∷ 1 ∷
    2 ∷ 3 ∷ 2 ∷ 0 ∷ 49 ∷ 2 ∷ 1 ∷ 208 ∷ 7 ∷ 0 ∷ 0 ∷ 1 ∷ 0 ∷ 36 ∷ 0 ∷ 1 ∷ 1 ∷ 3 ∷ 0 ∷ 4 ∷ 0 ∷ 0 ∷ 0 ∷ 0 ∷
    0 ∷ 0 ∷ 0 ∷ 3 ∷ 0 ∷ 2 ∷ 0 ∷ 1 ∷ 0 ∷ 3 ∷ 1 ∷ 1 ∷ 0 ∷ 0 ∷ 0 ∷ 3 ∷ 1 ∷ 2 ∷ 0 ∷ 1 ∷ 1 ∷ []

abbrev claims : ℕ → Node
claims r = record { kind = Kind.Claim r; duration = 0; count = 0; preds = replicate 8 0 }

abbrev after : Kind → ℕ → ℕ → Node
after k d m = record { kind = k; duration = d; count = 1; preds = m ∷ replicate 7 0 }

abbrev pub plan_t : Plan
plan_t =
    record {
      resources = 2;
      peripherals = 3;
      belongs = 0 ∷ 0 ∷ 1 ∷ replicate 61 0;
      events = 1;
      outcomes = 2 ∷ replicate 15 0;
      activities = 2;
      sizes = 7 ∷ 3 ∷ replicate 30 0;
      nodes =
          (claims 0 ∷ claims 1 ∷ after (Kind.Action 0 2) 3000 1
          ∷ record { kind = Kind.Action 1 0; duration = 5000; count = 2; preds = 0 ∷ 2 ∷ replicate 6 0 }
          ∷ after (Kind.Event 0) 1000 3 ∷ after (Kind.Release 0) 0 3 ∷ after (Kind.Release 1) 0 2 ∷ replicate 57 zero_node)
          ++ (claims 0 ∷ after (Kind.Action 2 1) 2000 0 ∷ after (Kind.Release 0) 0 1 ∷ replicate 1981 zero_node);
      automaton =
          record {
            states = 3;
            initial = 0;
            finals = 4;
            count = 3;
            moves =
                record { from = 0; to = 1; input = Input.Nothing; output = Output.Activity 0 }
                ∷ record { from = 1; to = 1; input = Input.Outcome 0 0; output = Output.Activity 0 }
                ∷ record { from = 1; to = 2; input = Input.Outcome 0 1; output = Output.Activity 1 }
                ∷ replicate 253 past_move;
          };
    }
