-- One turn of the loops over the parts, and the opening before them.
use Rattle.std.specs.Prelude.{Some, Option, None}
use mathlib.Core.Path.{◌≡◌, refl, sym, ◌∙◌, ap, subst}
use mathlib.Core.Bool.{Bool, true, false, cond}
use mathlib.Core.List.{List, [], ◌∷◌, ◌++◌}
use Prim.Native.Nat.{ℕ, zero, suc, ◌+◌, ◌≤◌, ◌<◌}
use native.Mathlib.Omega.{arith}
use lib.ListN.{length}
use lib.Dec.{leb, eqb}
use borrow.Author.Tests.{le-leb, leb-true}
use Rattle.wire.specs.Puts.{Puts}
use Rattle.wire.proofs.Laws.Puts.{puts_none, puts_join}
use Rattle.run.specs.declared.Run.{Run}
use Rattle.run.specs.declared.Call.{Call}
use Rattle.run.specs.declared.Answer.{Answer}
use Rattle.run.specs.declared.Opened.{Opened}
use Rattle.run.specs.Calls.{call_of}
use Rattle.run_window.specs.Where.{place_of}
use Rattle.drive_input.specs.declared.Head.{Head}
use Rattle.drive_input.specs.declared.Part.{Part}
use Rattle.drive_records.specs.declared.Record.{Record}
use Rattle.drive_input.specs.Input.{byte_at, parts_at, head_of, ask_at, completion_at, outcome_at, place_at, part_at}
use Rattle.drive_input.proofs.Laws.Whole.{whole_is}
use Rattle.drive.specs.Drive.{opened_by}
use Rattle.drive_records.specs.Records.{record_bytes, opening_record, reply_record, place_record}
use Rattle.drive.specs.Drive.{on_part, parts_from, parts_of, part_record, run_after, records_from, records_of, joined, text_of}

-- ---- a part lies within the input, after the offset where it begins

abbrev Ahead : List ℕ → ℕ → Option (Part × ℕ) → Type 0
Ahead b at None = Unit {0}
Ahead b at (Some (part, next)) = (at < next) × (next ≤ length b)

ahead_cond : (b : List ℕ) (at : ℕ) (t : Bool) (x y : Option (Part × ℕ)) → Ahead b at x → Ahead b at y → Ahead b at (cond t x y)
ahead_cond b at true x y p q = p
ahead_cond b at false x y p q = q

ahead_up_to : (b : List ℕ) (at next : ℕ) (part : Part) → at < next → (t : Bool) → leb next (length b) ≡ t
    → Ahead b at (cond t (Some (part, next)) None)
ahead_up_to b at next part h true e = (h, leb-true next (length b) e)
ahead_up_to b at next part h false e = tt

module _ (b : List ℕ) (at : ℕ) where
  ahead_ask : Ahead b at (ask_at b at)
  unfolding ask_at
  ahead_ask = ahead_up_to b at (at + 9) _ (omega arith) (leb (at + 9) (length b)) refl

  ahead_completion : Ahead b at (completion_at b at)
  unfolding completion_at
  ahead_completion = ahead_up_to b at (at + 14) _ (omega arith) (leb (at + 14) (length b)) refl

  ahead_outcome : Ahead b at (outcome_at b at)
  unfolding outcome_at
  ahead_outcome = ahead_up_to b at (at + 15) _ (omega arith) (leb (at + 15) (length b)) refl

  ahead_place : Ahead b at (place_at b at)
  unfolding place_at
  ahead_place = ahead_up_to b at (at + 6) _ (omega arith) (leb (at + 6) (length b)) refl

  any_ahead : Ahead b at (part_at b at)
  unfolding part_at
  any_ahead =
      ahead_cond b at (leb (at + 1) (length b)) _ _
      (ahead_cond b at (eqb (byte_at b at) 0) _ _ ahead_ask
      (ahead_cond b at (eqb (byte_at b at) 1) _ _ ahead_completion
      (ahead_cond b at (eqb (byte_at b at) 2) _ _ ahead_outcome (ahead_cond b at (eqb (byte_at b at) 3) _ _ ahead_place tt))))
      tt

  pub part_ahead : (part : Part) (next : ℕ) → part_at b at ≡ Some (part, next) → (at < next) × (next ≤ length b)
  part_ahead part next e = subst (Ahead b at) e any_ahead

-- ---- counting

module _ (b : List ℕ) (at left k : ℕ) (more : left ≡ suc k) where
  pub count_ends : part_at b at ≡ None → length (parts_from left b at) ≡ 0
  unfolding parts_from
  count_ends e = rw (more, e)

  pub count_goes : (part : Part) (next : ℕ) → part_at b at ≡ Some (part, next)
      → length (parts_from left b at) ≡ suc (length (parts_from k b next))
  unfolding parts_from
  count_goes part next e = rw (more, e)

pub count_over : (b : List ℕ) (at left : ℕ) → left ≡ 0 → length (parts_from left b at) ≡ 0
unfolding parts_from
count_over b at left e = rw e

-- as many as there are, are all of them
pub counted : (left : ℕ) (b : List ℕ) (at : ℕ) → parts_from (length (parts_from left b at)) b at ≡ parts_from left b at
unfolding parts_from
counted zero b at = refl
counted (suc left) b at = go (part_at b at) refl (λ next. counted left b next)
  where
    go : (c : Option (Part × ℕ)) → part_at b at ≡ c
        → ((next : ℕ) → parts_from (length (parts_from left b next)) b next ≡ parts_from left b next)
        → parts_from (length (on_part c (λ part next. part ∷ parts_from left b next) [])) b at
        ≡ on_part c (λ part next. part ∷ parts_from left b next) []
    go None e f = refl
    go (Some (part, next)) e f = rw e (ap (λ (ps : List Part). part ∷ ps) (f next))

-- ---- the loop

-- the bytes of the records of so many parts from `at` on
abbrev pub driven_from : ℕ → Run → List ℕ → ℕ → List ℕ
driven_from left run b at = joined (records_from run (parts_from left b at))

-- what puts the rest of the records puts all of them
abbrev pub Leads : List ℕ → ℕ → List ℕ → List ℕ → ℕ → List ℕ → Type 0
Leads out₀ written all out end rest = (after : List ℕ) (next : ℕ) → Puts out end rest after next → Puts out₀ written all after next

module _ (b : List ℕ) (at : ℕ) (run : Run) (left k : ℕ) (more : left ≡ suc k) where
  pub turn_ends : part_at b at ≡ None → (out : List ℕ) (end : ℕ) → Puts out end (driven_from left run b at) out end
  unfolding parts_from
  turn_ends e out end = rw (more, e) (puts_none out end)

  driven_one : (part : Part) (next : ℕ) → part_at b at ≡ Some (part, next)
      → driven_from left run b at ≡ record_bytes (part_record run part) ++ driven_from k (run_after run part) b next
  unfolding parts_from
  driven_one part next e = rw (more, e)

  module _ (part : Part) (next : ℕ) (e : part_at b at ≡ Some (part, next))
      (r : Record) {out mid after : List ℕ} {end past last : ℕ} (p : Puts out end (record_bytes r) mid past) where
    pub turn_calls : (call : Call) → part ≡ Part.Call call
        → (a : Answer) → a ≡ call_of run call → r ≡ reply_record a.reply
        → Puts mid past (driven_from k a.run b next) after last
        → Puts out end (driven_from left run b at) after last
    turn_calls call kind a is answers q =
        let one : driven_from left run b at ≡ record_bytes (reply_record (call_of run call).reply) ++ driven_from k (call_of run call).run b next =
        driven_one (Part.Call call) next (e ∙ ap (λ (x : Part). Some (x, next)) kind)
        in
        rw (one, ← is, ← answers) (puts_join p q)

    pub turn_asks : (position node : ℕ) → part ≡ Part.Place position node
        → (place : ℕ) → place ≡ place_of position node run.window → r ≡ place_record place
        → Puts mid past (driven_from k run b next) after last
        → Puts out end (driven_from left run b at) after last
    turn_asks position node kind place is answers q =
        let one : driven_from left run b at ≡ record_bytes (place_record (place_of position node run.window)) ++ driven_from k run b next =
        driven_one (Part.Place position node) next (e ∙ ap (λ (x : Part). Some (x, next)) kind)
        in
        rw (one, ← is, ← answers) (puts_join p q)

pub turn_over : (b : List ℕ) (at : ℕ) (run : Run) (left : ℕ) → left ≡ 0 → (out : List ℕ) (end : ℕ) → Puts out end (driven_from left run b at) out end
unfolding parts_from
turn_over b at run left e out end = rw e (puts_none out end)

-- ---- the opening

module _ (b : List ℕ) (h : Head) (e : head_of b ≡ Some h) where
  pub text_whole : text_of b ≡ record_bytes (opening_record (opened_by b h).opening) ++ joined (records_from (opened_by b h).run (parts_of b))
  unfolding records_of
  text_whole = let w = whole_is b h e in rw (w.is, le-leb (parts_at b) (length b) w.fits)

  pub parts_same : parts_from (length b) b h.parts ≡ parts_of b
  parts_same = rw (whole_is b h e).is

  pub opens : (parts : ℕ) → parts ≡ length (parts_of b)
      → (o : Opened) → o ≡ opened_by b h
      → (r : Record) → r ≡ opening_record o.opening
      → {out mid after : List ℕ} {past last : ℕ} → Puts out 0 (record_bytes r) mid past
      → Puts mid past (driven_from parts o.run b h.parts) after last
      → Puts out 0 (text_of b) after last
  opens parts all o is r answers {out} {mid} {after} {past} {last} p q =
      let s : parts_from parts b h.parts ≡ parts_of b =
      ap (λ (n : ℕ). parts_from n b h.parts) (all ∙ ap length (sym parts_same)) ∙ counted (length b) b h.parts ∙ parts_same
      in
      rw (text_whole, ← s, ← is, ← answers) (puts_join p q)
