-- `drive_records`: by one walk over the parts for the calls, and one up to a question for its place.
use Rattle.std.specs.Prelude.{◌≡◌, refl, List, [], ◌∷◌, ◌++◌, ℕ, ◌↔◌, length, take, drop, replicate}
use Rattle.std.proofs.Common.{sym, ap, ◌∙◌, true≢false}
use Rattle.basis.proofs.Laws.Lists.{all_same}
use Rattle.run.specs.declared.Run.{Run}
use Rattle.run.specs.Calls.{call_of}
use Rattle.run_window.specs.declared.Entry.{Entry}
use Rattle.run_window.specs.Window.{vacant, is_held}
use Rattle.run_window.specs.Where.{place_of}
use Rattle.run_window.proofs.Laws.Where.{HoldsNode, where_absent, where_only}
use Rattle.demands_log.specs.Log.{Log, said}
use Rattle.demands_log.specs.Drive.{Driven, drive}
use Rattle.demands_run.proofs.Laws.Theorem.{window_long}
use Rattle.drive_input.specs.declared.Part.{Part}
use Rattle.drive_records.specs.Records.{place_record}
use Rattle.drive.specs.Drive.{opened, parts_of, calls_among, records_from, records_of}
use Rattle.drive.proofs.Laws.Records.{records_length}
use Rattle.demands.specs.Demand3.{driven_by}
use Rattle.demands.specs.Conditions.{entry_at, NodeAt}
use Rattle.demands.specs.DriveRecords.{answers_of, at_calls, StatementDriveRecords, StatementPlaceTold, StatementRefusedPlaces}
use Rattle.demands.proofs.Laws.Demand3Holds.{demand_3}
use Rattle.demands.proofs.Laws.Repeated.{refused_list}

-- a log before the list adds its answers in front
answers_at_calls : (log : Log) (run : Run) (parts : List Part)
    → answers_of (drive log run (calls_among parts)).log [] ≡ answers_of log (at_calls parts (records_from run parts))
answers_at_calls log run [] = refl
answers_at_calls log run (Part.Call call ∷ parts) = answers_at_calls (said call (call_of run call).reply ∷ log) (call_of run call).run parts
answers_at_calls log run (Part.Place position node ∷ parts) = answers_at_calls log run parts

place-behind : (log : Log) (run : Run) (before after : List Part) (position node : ℕ)
    → take 1 (drop (length before) (records_from run (before ++ (Part.Place position node ∷ after))))
    ≡ place_record (place_of position node (drive log run (calls_among before)).run.window) ∷ []
place-behind log run [] after position node = refl
place-behind log run (Part.Call call ∷ before) after position node =
    place-behind (said call (call_of run call).reply ∷ log) (call_of run call).run before after position node
place-behind log run (Part.Place p n ∷ before) after position node = place-behind log run before after position node

pub drive_records : StatementDriveRecords
unfolding records_of
drive_records b w = (
  records_from (opened b).run (parts_of b),
  rw w,
  record {
    each = records_length (opened b).run (parts_of b);
    calls = sym (answers_at_calls [] (opened b).run (parts_of b));
    places = λ before after position node e. rw e (place-behind [] (opened b).run before after position node);
  },
)

-- ---- the place that a question is told

-- the same node at the same place
holds_node : (run : Run) (position node i : ℕ) → NodeAt run position node i ↔ HoldsNode position node run.window i
holds_node run position node i = (
  λ h. record { entry = entry_at run i; there = record { entry = refl; held = h.held }; position_is = h.position; node_is = h.node },
  λ h. record {
    held = ap (λ (x : Entry). is_held x.phase) h.there.entry ∙ h.there.held;
    position = ap (λ (x : Entry). x.position) h.there.entry ∙ h.position_is;
    node = ap (λ (x : Entry). x.node) h.there.entry ∙ h.node_is;
  },
)

pub place_told : StatementPlaceTold
place_told bytes are psi slack ts opened cs position node =
    let d = demand_3 bytes are psi slack ts opened cs in
    let is = d.word in
    let t = d.times is.0 is.1 in
    let c = d.claim is.0 is.1 t.0 t.1 t.2 in
    let run = (driven_by bytes psi slack ts cs).run in (
      λ i h. where_only position node run.window i (λ j k e f p q r. c.window_once j k e f p q (λ x. record { position = r.0 x; node = r.1 x })) ((holds_node run position node i).0 h),
      λ n. where_absent position node run.window (λ i h. n i ((holds_node run position node i).1 h)) ∙ window_long bytes are psi slack ts opened cs,
    )

pub refused_places : StatementRefusedPlaces
refused_places bytes psi slack ts u refused cs position node =
    ap (λ (d : Driven). place_of position node d.run.window) (refused_list bytes psi slack ts u refused cs)
    ∙ where_absent position node (replicate 512 vacant) (λ i h. true≢false (sym h.there.held ∙ ap (λ (x : Entry). is_held x.phase) (sym h.there.entry ∙ all_same 512 i vacant)))
