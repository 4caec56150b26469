-- `cases`: K1 to K12 hold of the definitions, by computation.
use Rattle.std.specs.Prelude.{refl}
use Rattle.basis.specs.Tests.{every, some, falses}
use Rattle.wire.specs.Number.{field_at, number, optional, optional_bytes}
use Rattle.plan.specs.Fields.{byte_at, optional_count, numbers_then}
use Rattle.plan.specs.Nodes.{asks_of, kind_by, duration_at, preds_loop, preds_at, node_with, node_at}
use Rattle.plan.specs.Sections.{belongs_at, peripherals_at, outcomes_at, events_at, nodes_then, activities_loop, activities_at}
use Rattle.plan.specs.Moves.{input_at, output_at, move_with, move_from, move_at, finals_at, move_count_at, moves_loop, moves_at, automaton_at}
use Rattle.plan.specs.Reading.{sections_at, ended_at, with_activities, with_events, with_peripherals, plan_at, read_plan}
use Rattle.plan_limits.specs.Limits.{within, node_in_limits, slot_in_limits, nodes_in_limits, move_in_limits, moves_in_limits, automaton_in_limits, parts_in_limits, in_limits, is_rising, slot_written, nodes_written, file_rules}
use Rattle.run_limits.specs.Progress.{times_in_limits, instance_in_limits, place_in_limits, pending_in_limits, progress_fits, progress_in_limits}
use Rattle.run_limits.specs.Window.{entry_in_limits, window_in_limits}
use Rattle.activity.specs.Tests.{word_of, passes, before_words}
use Rattle.activity.specs.Number.{no_cycle, rule_i, rule_ii, rule_iii, rule_iv, rule_v, rule_vi, rule_vii, rule_viii, rule_ix, rule_x, rule_xi, fault_by, fault_of, verdict_from, activities_verdict}
use Rattle.activity.specs.Inner.Copied.{copied}
use Rattle.automaton.specs.Tests.{all}
use Rattle.automaton.specs.Next.{ways_from, chosen_from}
use Rattle.automaton.specs.Number.{lowest, no_way_out, apart_from, branches_in, serves, again, finals_of, pass_back, advanced, pass_on, judge_counts, path_verdict, way_verdict, state_verdict, automaton_verdict}
use Rattle.times.specs.Times.{ready_of, largest_of, start_of, placed_of, visit_of, round_of, rounds_of}
use Rattle.times.specs.Queues.{shifted_of, processed_of, floor_of, queued_of}
use Rattle.times.specs.Engine.{raised_of, held_of, left_by, left_of, above_of, beyond_of, closed_of, emits_of, timed_of}
use Rattle.run_window.specs.Window.{is_overdue, is_late, is_due, is_node, precedes, first, is_empty, placed, vacancies}
use Rattle.run_window.proofs.Laws.Placed.{free_place}
use Rattle.run_path.specs.Path.{entries_from, path_from}
use Rattle.judge.specs.Judge.{judge_of}
use Rattle.run_checks.specs.Order.{timely_by}
use Rattle.run.specs.Limits.{run_in_limits}
use Rattle.run_outcomes.specs.Way.{way_on}
use Rattle.run.specs.Loading.{load, further}
use Rattle.run_opening.specs.Given.{any_above}
use Rattle.run_opening.specs.Short.{any_short, short_from}
use Rattle.run.specs.Opening.{open_plan, open_of}
use Rattle.run_outcomes.specs.Told.{is_instance, told_from}
use Rattle.run.specs.Calls.{asked, completed, learns, ask_of, completion_of, outcome_of, call_of}
use Rattle.timetable_text.specs.Text.{digits, line}
use Rattle.timetable_lines.specs.Lines.{rows, free_of}
use Rattle.timetable_turns.specs.Timetable.{table_from, timetable_of}
use Rattle.demands.specs.Cases.{the_cases, AllHold}

pub cases : AllHold the_cases
unfolding field_at number optional optional_bytes byte_at optional_count numbers_then asks_of kind_by duration_at preds_loop preds_at node_with node_at belongs_at peripherals_at outcomes_at events_at nodes_then activities_loop activities_at input_at output_at move_with move_from move_at finals_at move_count_at moves_loop moves_at automaton_at sections_at ended_at with_activities with_events with_peripherals plan_at read_plan within node_in_limits slot_in_limits nodes_in_limits move_in_limits moves_in_limits automaton_in_limits parts_in_limits in_limits is_rising slot_written nodes_written file_rules times_in_limits instance_in_limits place_in_limits pending_in_limits progress_fits progress_in_limits entry_in_limits window_in_limits every some word_of passes before_words no_cycle rule_i rule_ii rule_iii rule_iv rule_v rule_vi rule_vii rule_viii rule_ix rule_x rule_xi fault_by fault_of verdict_from activities_verdict copied all ways_from chosen_from lowest no_way_out apart_from branches_in serves again falses finals_of pass_back advanced pass_on judge_counts path_verdict way_verdict state_verdict automaton_verdict ready_of largest_of start_of placed_of visit_of round_of rounds_of shifted_of processed_of floor_of queued_of raised_of held_of left_by left_of above_of beyond_of closed_of emits_of timed_of is_overdue is_late is_due is_node precedes first is_empty placed vacancies free_place entries_from path_from judge_of run_in_limits load way_on further any_above any_short short_from open_plan open_of asked completed is_instance told_from learns timely_by ask_of completion_of outcome_of call_of digits line rows free_of table_from timetable_of
cases =
    (refl, (refl, (refl, (refl, (refl, (refl, (refl, (refl, (refl, (refl, (refl, (refl, (refl, (refl, (refl, (refl, (refl, tt)))))))))))))))))
