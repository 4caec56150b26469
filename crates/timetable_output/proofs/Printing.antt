-- Several turns: their texts in a row, and the turns that are left.
use Rattle.std.specs.Prelude.{◌≡◌, refl, Bool, true, false, cond, Option, List, [], ◌++◌, ℕ, suc, ◌-◌, ◌≤◌, ◌<◌, length, take, None, Result}
use Rattle.std.specs.Io.KnownBytes.{Appends, Consumes}
use Rattle.std.proofs.Common.{sym, ap, ◌∙◌, subst, arith, append-nil, append_assoc}
use Rattle.std.proofs.KnownBytes.{Appends-nil, Consumes-nil, Consumes-trans}
use lib.Seq.{take-length}
use Rattle.basis.proofs.Laws.Bools.{clash}
use Rattle.plan.specs.declared.Plan.{Plan}
use Rattle.judge.specs.Judge.{judge_of}
use Rattle.times.specs.declared.Progress.{Progress}
use Rattle.timetable_turns.specs.Inner.Turn.{turn_of, turns_from, waits_of, read_after, most_turns, is_refused, first_text, first_progress}
use Rattle.timetable_turns.specs.Timetable.{text_of_plan}
use Rattle.timetable_turns.proofs.Laws.ByTurns.{plan_by_turns}
use Rattle.timetable_turns.proofs.Laws.Hearing.{nothing_closes}
use Rattle.timetable_text.specs.declared.NotPut.{NotPut}
use Rattle.timetable_text.specs.Lent.{Lends, past_of}
use Rattle.timetable_text.proofs.Laws.Lent.{lent_puts, put_front}
use Rattle.timetable_streams.specs.declared.Output.{Output}
use Rattle.timetable_streams.specs.Inner.Asking.{heard_bytes}
use Rattle.timetable_streams.specs.Inner.Gathering.{output, Gathers, HandsOn, HandsTo, Rests}
use Rattle.timetable_output.specs.declared.Between.{Between}
use Rattle.timetable_output.specs.Inner.Between.{Went, Goes, Prints, Ends, Printed, Delivers}
use Rattle.timetable_output.proofs.Hearing.{heard_on}
use Rattle.timetable_output.proofs.Turning.{between, went_on}

-- text that is handed on is no new text
pub prints_none : (p : Plan) (b : Between) (out : List ℕ) (input written writes : Option (List ℕ)) (o : Output) → HandsOn out b.output o → HandsTo written writes out b.output o → Prints p b out out input input written writes (between o b.taken b.left b.progress)
prints_none p b out input written writes o h s = record {
  text = [];
  heard = [];
  took = Consumes-nil input;
  gathers = λ l g. subst (λ (t : List ℕ). Gathers t out o) (sym (append-nil l)) (h.gathers l g);
  onward = λ k os z. refl;
  went = λ k l g start a. subst (λ (t : List ℕ). Went start writes t o) (sym (append-nil l)) (went_on l out b.output o written writes g h s k start a);
}

pub prints_same : (p : Plan) (b : Between) (out : List ℕ) (input written : Option (List ℕ)) → Prints p b out out input input written written b
prints_same p b out input written = record {
  text = [];
  heard = [];
  took = Consumes-nil input;
  gathers = λ l g. subst (λ (t : List ℕ). Gathers t out b.output) (sym (append-nil l)) g;
  onward = λ k os z. refl;
  went = λ k l g start a. subst (λ (t : List ℕ). Went start written t b.output) (sym (append-nil l)) a;
}

-- one turn, handed a byte only where the state waits for one
module _ (p : Plan) (b : Between) (heard : Option ℕ) (before after : List ℕ) (input rest written writes : Option (List ℕ)) (r : Between) (more : 0 < b.left) (asked : waits_of p b.progress ≡ false → heard ≡ None) (took : Consumes input rest (heard_bytes heard)) (g : Goes p b heard before after written writes r) where
  rest-is : r.output.lost ≡ false → (os : List ℕ) → cond (turn_of p b.progress b.taken heard).closed [] (turns_from p (b.left - 1) (read_after (turn_of p b.progress b.taken heard) b.taken) os (turn_of p b.progress b.taken heard).progress) ≡ turns_from p r.left r.taken os r.progress
  unfolding turns_from
  rest-is k os = go (turn_of p b.progress b.taken heard).closed (g.left ∙ ap (λ (z : Bool). cond (turn_of p b.progress b.taken heard).closed 0 (cond z 0 (b.left - 1))) k)
    where
      go : (y : Bool) → r.left ≡ cond y 0 (b.left - 1) → cond y [] (turns_from p (b.left - 1) (read_after (turn_of p b.progress b.taken heard) b.taken) os (turn_of p b.progress b.taken heard).progress) ≡ turns_from p r.left r.taken os r.progress
      go true e = sym (ap (λ (n : ℕ). turns_from p n r.taken os r.progress) e)
      go false e =
          ap (λ (n : ℕ). turns_from p n (read_after (turn_of p b.progress b.taken heard) b.taken) os (turn_of p b.progress b.taken heard).progress) (sym e)
          ∙ ap (λ (n : ℕ). turns_from p r.left n os (turn_of p b.progress b.taken heard).progress) (sym g.taken)
          ∙ ap (λ (q : Progress). turns_from p r.left r.taken os q) (sym g.progress)

  -- where the input ended, the turn that asks closes the table
  none_left : waits_of p b.progress ≡ true → heard ≡ None → r.left ≡ 0
  none_left w e =
      g.left ∙ ap (λ (y : Bool). cond y 0 (cond r.output.lost 0 (b.left - 1))) (ap (λ (h : Option ℕ). (turn_of p b.progress b.taken h).closed) e ∙ nothing_closes p b.progress b.taken w)

  pub prints_turn : Prints p b before after input rest written writes r
  prints_turn = record {
    text = (turn_of p b.progress b.taken heard).text;
    heard = heard_bytes heard;
    took = took;
    gathers = g.gathers;
    onward = λ k os z.
        let n : b.left ≡ suc (b.left - 1) = omega arith in
        ap (λ (m : ℕ). turns_from p m b.taken (heard_bytes heard ++ os) b.progress) n
        ∙ heard_on p b.progress (b.left - 1) b.taken heard asked os (λ w e. z (none_left w e))
        ∙ ap (λ (l : List ℕ). (turn_of p b.progress b.taken heard).text ++ l) (rest-is k os);
    went = g.went;
  }

pub prints_join : (p : Plan) (b : Between) (l m n : List ℕ) (i j k v w x : Option (List ℕ)) (c r : Between) → c.output.lost ≡ false → 0 < c.left → Prints p b l m i j v w c → Prints p c m n j k w x r → Prints p b l n i k v x r
prints_join p b l m n i j k v w x c r whole open' u s = record {
  text = u.text ++ s.text;
  heard = u.heard ++ s.heard;
  took = Consumes-trans i j k u.heard s.heard u.took s.took;
  gathers = λ t g. subst (λ (y : List ℕ). Gathers y n r.output) (append_assoc t u.text s.text) (s.gathers (t ++ u.text) (u.gathers t g));
  onward = λ e os z.
      ap (λ (y : List ℕ). turns_from p b.left b.taken y b.progress) (append_assoc u.heard s.heard os)
      ∙ u.onward whole (s.heard ++ os) (λ none. absurd (omega arith))
      ∙ ap (λ (y : List ℕ). u.text ++ y) (s.onward e os z)
      ∙ sym (append_assoc u.text s.text (turns_from p r.left r.taken os r.progress));
  went = λ e t g start a. subst (λ (y : List ℕ). Went start x y r.output) (append_assoc t u.text s.text) (s.went e (t ++ u.text) (u.gathers t g) start (u.went whole t g start a));
}

-- ---- all turns

pub ends_lost : (p : Plan) (b : Between) (out : List ℕ) (input rest written writes : Option (List ℕ)) (r : Output) → r.lost ≡ true → Ends p b out input rest written writes r
ends_lost p b out input rest written writes r e = record { all = λ l g k. clash (sym e ∙ k) }

pub ends_rest : (p : Plan) (b : Between) (before after : List ℕ) (input rest written wrote writes : Option (List ℕ)) (c : Between) (r : Output) → Prints p b before after input rest written wrote c → c.left ≡ 0 → Rests after c.output r → HandsTo wrote writes after c.output r → Ends p b before input rest written writes r
unfolding turns_from
ends_rest p b before after input rest written wrote writes c r u z h s = record {
  all = λ l g k.
      let q = h.went k in
      let on = u.gathers l g in
      let w = on.whole in
      let v = h.hands.count in
      let none = h.none k in
      let e : turns_from p b.left b.taken u.heard b.progress ≡ u.text =
      ap (λ (y : List ℕ). turns_from p b.left b.taken y b.progress) (sym (append-nil u.heard))
      ∙ u.onward q [] (λ y. refl)
      ∙ ap (λ (n : ℕ). u.text ++ turns_from p n c.taken [] c.progress) z
      ∙ append-nil u.text in
      let y : r.handed ≡ length (l ++ u.text) = omega arith in
      let all : take r.handed (l ++ u.text) ≡ l ++ turns_from p b.left b.taken u.heard b.progress =
      ap (λ (n : ℕ). take n (l ++ u.text)) y ∙ take-length (l ++ u.text) ∙ sym (ap (λ (t : List ℕ). l ++ t) e) in (
        u.heard,
        u.took,
        record {
          handed = y ∙ sym (ap (λ (t : List ℕ). length (l ++ t)) e);
          went = λ start a. subst (Appends start writes) all (went_on (l ++ u.text) after c.output r wrote writes on h.hands s k start (u.went q l g start a));
        },
      );
}

-- ---- the whole table

-- the first line is gathered
pub gathers_first : (own line own' : List ℕ) (r : Result ℕ NotPut) (gathered : ℕ) (lost : Bool) → length line ≤ length own → Lends own 0 line own' r → gathered ≡ past_of 0 r → Gathers line own' (output 0 gathered lost)
gathers_first own line own' r gathered lost h l e =
    let p = lent_puts own 0 line (omega arith) own' r l in
    let q = p.past in
    record { whole = omega arith; rest = ap (λ (n : ℕ). take n own') e ∙ put_front own line own' (past_of 0 r) h p }

-- and handed on, before any other
pub first_went : (own line own' : List ℕ) (put : Result ℕ NotPut) (gathered : ℕ) (written writes : Option (List ℕ)) (r : Output) → length line ≤ length own → Lends own 0 line own' put → gathered ≡ past_of 0 put → HandsOn own' (output 0 gathered false) r → r.gathered ≡ 0 → HandsTo written writes own' (output 0 gathered false) r → (r.handed ≡ length line) × (r.lost ≡ false → Appends written writes line)
first_went own line own' put gathered written writes r h l e on z s = (
  handed,
  λ k. subst (Appends written writes) (ap (λ (n : ℕ). take n line) handed ∙ take-length line) (went_on line own' (output 0 gathered false) r written writes first on s k written (Appends-nil written)),
)
  where
    first : Gathers line own' (output 0 gathered false)
    first = gathers_first own line own' put gathered false h l e

    handed : r.handed ≡ length line
    handed = let w = first.whole in let c = on.count in omega arith

text_is : (bytes os : List ℕ) (b : Bool) → is_refused (judge_of bytes).verdict ≡ b → text_of_plan bytes os ≡ first_text (judge_of bytes).verdict ++ cond b [] (turns_from (judge_of bytes).plan most_turns 0 os (first_progress (judge_of bytes).plan))
text_is bytes os b e = sym (plan_by_turns bytes os) ∙ ap (λ (y : Bool). first_text (judge_of bytes).verdict ++ cond y [] (turns_from (judge_of bytes).plan most_turns 0 os (first_progress (judge_of bytes).plan))) e

pub delivers_refused : (bytes : List ℕ) (input written writes : Option (List ℕ)) (r : Output) → is_refused (judge_of bytes).verdict ≡ true → r.handed ≡ length (first_text (judge_of bytes).verdict) → (r.lost ≡ false → Appends written writes (first_text (judge_of bytes).verdict)) → Delivers (text_of_plan bytes) input input written writes r
delivers_refused bytes input written writes r e h a = record {
  all = λ k. ([], Consumes-nil input, subst (Appends written writes) (sym text) (a k), h ∙ sym (ap length text));
}
  where
    text : text_of_plan bytes [] ≡ first_text (judge_of bytes).verdict
    text = text_is bytes [] true e ∙ append-nil (first_text (judge_of bytes).verdict)

pub delivers_all : (bytes out : List ℕ) (p : Plan) (b : Between) (input rest written writes : Option (List ℕ)) (r : Output) → is_refused (judge_of bytes).verdict ≡ false → p ≡ (judge_of bytes).plan → b.progress ≡ first_progress (judge_of bytes).plan → b.left ≡ most_turns → b.taken ≡ 0 → b.output.handed ≡ 0 → Gathers (first_text (judge_of bytes).verdict) out b.output → Ends p b out input rest written writes r → Delivers (text_of_plan bytes) input rest written writes r
delivers_all bytes out p b input rest written writes r e i j m z y g h = record {
  all = λ k.
      let f = h.all first g k in
      (f.0, f.1, subst (Appends written writes) (text f.0) (f.2.went written none), f.2.handed ∙ ap length (text f.0));
}
  where
    first : List ℕ
    first = first_text (judge_of bytes).verdict

    none : Went written written first b.output
    none = subst (λ (n : ℕ). Appends written written (take n first)) (sym y) (Appends-nil written)

    text : (os : List ℕ) → first ++ turns_from p b.left b.taken os b.progress ≡ text_of_plan bytes os
    text os =
        ap (λ (q : Plan). first ++ turns_from q b.left b.taken os b.progress) i
        ∙ ap (λ (n : ℕ). first ++ turns_from (judge_of bytes).plan n b.taken os b.progress) m
        ∙ ap (λ (n : ℕ). first ++ turns_from (judge_of bytes).plan most_turns n os b.progress) z
        ∙ ap (λ (q : Progress). first ++ turns_from (judge_of bytes).plan most_turns 0 os q) j
        ∙ sym (text_is bytes os false e)

-- what was printed, without where it went
pub printed_of : (bytes : List ℕ) (input rest written writes : Option (List ℕ)) (r : Output) → Delivers (text_of_plan bytes) input rest written writes r → Printed bytes r
printed_of bytes input rest written writes r h = record { all = λ k. let f = h.all k in (f.0, f.3) }
