-- K1, K2 and K5, and plan T, computed by the description alone.
use Rattle.std.specs.Prelude.{◌≡◌, refl, true, [], ◌∷◌, ◌++◌}
use Rattle.format.specs.Format.{read, refused, parse, parse_all, print, keeps}
use Rattle.plan.proofs.Laws.Example.{plan_t, bytes_of_t}
use Rattle.plan_file.specs.PlanFile.{fault_order, node_map, move_map, section_map, plan_file, plan_of}

pub K1 : plan_of [] ≡ refused 1 0
unfolding plan_of plan_file parse_all parse
K1 = refl

pub K2 : plan_of (0 ∷ []) ≡ refused 7 0
unfolding plan_of plan_file parse_all parse
K2 = refl

pub T-read : plan_of bytes_of_t ≡ read plan_t 93
unfolding plan_of plan_file parse_all parse
T-read = refl

pub T-printed : print plan_file plan_t ≡ bytes_of_t
unfolding plan_file print node_map move_map section_map
T-printed = refl

pub T-keeps : keeps fault_order plan_file plan_t ≡ true
unfolding plan_file keeps node_map move_map section_map
T-keeps = refl

pub K5 : plan_of (bytes_of_t ++ (0 ∷ [])) ≡ refused 6 93
unfolding plan_of plan_file parse_all parse
K5 = refl
