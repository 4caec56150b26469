-- One turn of the program: what the table's turn leaves is what holds between two turns.
use Rattle.std.specs.Prelude.{◌≡◌, refl, Bool, true, false, cond, Option, List, ◌++◌, ℕ, ◌+◌, ◌-◌, ◌*◌, ◌≤◌, ◌<◌, length, take, drop, get_or, None}
use Rattle.std.specs.Io.KnownBytes.{Appends}
use Rattle.std.proofs.Common.{sym, ap, ◌∙◌, subst, arith, length-append, length-take-le, take-take}
use Rattle.std.proofs.KnownBytes.{Appends-trans}
use lib.Seq.{sets-eq, take_at, take-add, take-append-le, drop-append-le}
use Rattle.wire.specs.Puts.{Puts}
use Rattle.plan.specs.declared.Activity.{Activity}
use Rattle.plan.specs.declared.Plan.{Plan}
use Rattle.plan.specs.Limits.{InLimits}
use Rattle.times.specs.declared.Progress.{Progress}
use Rattle.automaton.specs.Next.{next_of}
use Rattle.automaton.specs.declared.Next.{Next}
use Rattle.run_path.specs.Inner.Path.{emitted_of}
use Rattle.timetable_steps.specs.declared.Step.{Step}
use Rattle.timetable_steps.specs.Inner.Steps.{Looks, Emits, next_step, step_of, output_of, place_of, column_of, past_activity}
use Rattle.timetable_streams.specs.Inner.Asking.{asks}
use Rattle.timetable_turns.specs.Inner.Turn.{OneTurn, turn_of, is_waiting, waits_of, Open}
use Rattle.timetable_turns.specs.Inner.Answers.{Drafts}
use Rattle.timetable_turns.proofs.Laws.InLimits.{turn_open}
use Rattle.timetable_turns.proofs.Laws.Short.{turn_short}
use Rattle.timetable_turns.proofs.Laws.Stepping.{step_output}
use Rattle.timetable_turns.specs.declared.Drafted.{Drafted}
use Rattle.timetable_streams.specs.declared.Output.{Output}
use Rattle.timetable_streams.specs.Inner.Gathering.{output, Gathers, HandsOn, HandsTo}
use Rattle.timetable_output.specs.declared.Between.{Between}
use Rattle.timetable_output.specs.Inner.Between.{Stands, Went, Goes}

abbrev pub between : Output → ℕ → ℕ → Progress → Between
between o taken left g = record { output = o; taken = taken; left = left; progress = g }

-- ---- the text so far

-- text is put after what is gathered
pub gathers_put : (text more before after : List ℕ) (o : Output) (next : ℕ) (lost : Bool) → o.gathered + length more ≤ length before → Puts before o.gathered more after next → Gathers text before o → Gathers (text ++ more) after (output o.handed next lost)
gathers_put text more before after o next lost h p g = record {
  whole = let u = length-append text more in let v = p.past in let w = g.whole in omega arith;
  rest =
      ap (take next) (p.left ∙ sets-eq more before o.gathered h)
      ∙ take_at (take o.gathered before ++ more) (drop (o.gathered + length more) before) next lengths
      ∙ ap (λ (l : List ℕ). l ++ more) g.rest
      ∙ sym (drop-append-le o.handed text more (let w = g.whole in omega arith));
}
  where
    lengths : length (take o.gathered before ++ more) ≡ next
    lengths = length-append (take o.gathered before) more ∙ ap (λ (n : ℕ). n + length more) (length-take-le o.gathered before (omega arith)) ∙ sym p.past

-- what was handed on of the text so far stays so when more text joins it
front_stays : (text more out : List ℕ) (o : Output) → Gathers text out o → take o.handed (text ++ more) ≡ take o.handed text
front_stays text more out o g = take-append-le o.handed text more (let w = g.whole in omega arith)

handed_front : (text out : List ℕ) (o r : Output) → Gathers text out o → r.handed + r.gathered ≡ o.handed + o.gathered → o.handed ≤ r.handed → take o.handed text ++ take (r.handed - o.handed) out ≡ take r.handed text
handed_front text out o r g c h =
    let k = r.handed - o.handed in
    let few : k ≤ o.gathered = omega arith in
    let sum : o.handed + k ≡ r.handed = omega arith in
    let front : take k out ≡ take k (drop o.handed text) = sym (take-take k o.gathered out few) ∙ ap (take k) g.rest in
    ap (λ (l : List ℕ). take o.handed text ++ l) front ∙ sym (take-add o.handed k text) ∙ ap (λ (n : ℕ). take n text) sum

-- what is handed on goes on where what was handed on before ended
pub went_on : (text out : List ℕ) (o r : Output) (written writes : Option (List ℕ)) → Gathers text out o → HandsOn out o r → HandsTo written writes out o r → r.lost ≡ false → (start : Option (List ℕ)) → Went start written text o → Went start writes text r
went_on text out o r written writes g h w k start a =
    subst (Appends start writes) (handed_front text out o r g h.count w.onward) (Appends-trans start written writes _ _ a (w.bytes k))

-- ---- one turn

pub drafts_as : (before : List ℕ) (at : ℕ) (after : List ℕ) (x y : OneTurn) (r : Drafted) → x ≡ y → Drafts before at x after r → Drafts before at y after r
drafts_as before at after x y r e h = subst (λ (z : OneTurn). Drafts before at z after r) e h

module _ (p : Plan) (b : Between) (heard : Option ℕ) (before after : List ℕ) (d : Drafted) (h : Drafts before b.output.gathered (turn_of p b.progress b.taken heard) after d) (size : length before ≡ 65_536) (s : Stands p b) (more : 0 < b.left) where
  short : length (turn_of p b.progress b.taken heard).text ≤ 3_904
  short = turn_short p b.progress (s.within more) b.taken heard

  room : b.output.gathered + length (turn_of p b.progress b.taken heard).text ≤ length before
  room = let u = short in let v = s.room more in omega arith

  pub put_few : d.next ≤ 65_536
  put_few = let u = short in let v = s.room more in let w = h.text.past in omega arith

  pub put_count : b.output.handed + d.next ≤ 5_000_000_000_000
  put_count = let u = short in let v = s.few in let w = h.text.past in omega arith

  module _ (o : Output) (written writes : Option (List ℕ)) (on : HandsOn after (output b.output.handed d.next false) o) (sent : HandsTo written writes after (output b.output.handed d.next false) o) (few : o.gathered ≤ 61_440) (taken : ℕ) (t : taken ≡ cond d.heard (b.taken + 1) b.taken) (left : ℕ) (l : left ≡ cond d.closed 0 (cond o.lost 0 (b.left - 1))) where
    taken_few : taken ≤ b.taken + 1
    taken_few = go d.heard t
      where
        go : (y : Bool) → taken ≡ cond y (b.taken + 1) b.taken → taken ≤ b.taken + 1
        go true k = omega arith
        go false k = omega arith

    pub left_few : left ≤ b.left - 1
    left_few = go d.closed o.lost l
      where
        go : (y z : Bool) → left ≡ cond y 0 (cond z 0 (b.left - 1)) → left ≤ b.left - 1
        go true z k = omega arith
        go false true k = omega arith
        go false false k = omega arith

    on_open : 0 < left → d.closed ≡ false
    on_open m = go d.closed refl
      where
        go : (y : Bool) → d.closed ≡ y → d.closed ≡ false
        go true k = absurd (let z : left ≡ 0 = l ∙ ap (λ (v : Bool). cond v 0 (cond o.lost 0 (b.left - 1))) k in omega arith)
        go false k = k

    on_whole : 0 < left → o.lost ≡ false
    on_whole m = go o.lost refl
      where
        go : (y : Bool) → o.lost ≡ y → o.lost ≡ false
        go true k = absurd (let z : left ≡ 0 = l ∙ ap (λ (v : Bool). cond v 0 (cond o.lost 0 (b.left - 1))) (on_open m) ∙ ap (λ (v : Bool). cond v 0 (b.left - 1)) k in omega arith)
        go false k = k

    put : (text : List ℕ) → Gathers text before b.output → Gathers (text ++ (turn_of p b.progress b.taken heard).text) after (output b.output.handed d.next false)
    put text g = gathers_put text (turn_of p b.progress b.taken heard).text before after b.output d.next false room h.text g

    pub goes : Goes p b heard before after written writes (between o taken left d.progress)
    goes = record {
      stands = record {
        fits = omega arith;
        room = λ m. few;
        within = λ m. subst (Open p) (sym h.progress) (turn_open p b.progress (s.within more) b.taken heard (sym h.closed ∙ on_open m));
        went = on_whole;
        turns = let u = taken_few in let v = s.turns in let w = left_few in omega arith;
        few = let u = on.count in let v = s.few in let w = left_few in let y = short in let z = h.text.past in omega arith;
      };
      gathers = λ text g. on.gathers (text ++ (turn_of p b.progress b.taken heard).text) (put text g);
      progress = h.progress;
      taken = t ∙ ap (λ (y : Bool). cond y (b.taken + 1) b.taken) h.heard;
      left = l ∙ ap (λ (y : Bool). cond y 0 (cond o.lost 0 (b.left - 1))) h.closed;
      went = λ k text g start a.
          went_on _ after (output b.output.handed d.next false) o written writes (put text g) on sent k start
          (subst (Appends start written) (sym (front_stays text (turn_of p b.progress b.taken heard).text before b.output g)) a);
    }

-- each turn leaves fewer
pub goes_less : (p : Plan) (b : Between) (heard : Option ℕ) (before after : List ℕ) (written writes : Option (List ℕ)) (r : Between) → 0 < b.left → Goes p b heard before after written writes r → r.left < b.left
goes_less p b heard before after written writes r more g = go (turn_of p b.progress b.taken heard).closed r.output.lost g.left
  where
    go : (y z : Bool) → r.left ≡ cond y 0 (cond z 0 (b.left - 1)) → r.left < b.left
    go true z e = omega arith
    go false true e = omega arith
    go false false e = omega arith

-- ---- before a turn

-- the step of where the behaviour stands, and the activity that it emits
pub record Looked (p : Plan) (g : Progress) (heard : Option ℕ) (x : Step) (a : Activity) : Type 0 where
  pub step : x ≡ step_of p.automaton p.outcomes g.state heard
  pub activity : a ≡ emitted_of p (output_of x)

-- as they stand in the tables
pub looked : (p : Plan) (steps : List Step) (activities : List Activity) → InLimits p → Looks p steps → Emits p activities → (g : Progress) → g.state < p.automaton.states → (heard : Option ℕ) (j k : ℕ) → j ≡ 10 * g.state + column_of heard → k ≡ place_of (output_of (get_or steps j Step.Ends)) → Looked p g heard (get_or steps j Step.Ends) (get_or activities k past_activity)
looked p steps activities limits l m g within heard j k e f = record {
  step = step;
  activity = ap (λ (i : ℕ). get_or activities i past_activity) f ∙ m.emitted _ (step_output p limits g.state heard _ step);
}
  where
    step : get_or steps j Step.Ends ≡ step_of p.automaton p.outcomes g.state heard
    step = ap (λ (i : ℕ). get_or steps i Step.Ends) e ∙ l.looked g.state heard within

-- the byte is asked for where the state waits for one
pub step_asks : (p : Plan) (g : Progress) → asks (step_of p.automaton p.outcomes g.state None) ≡ waits_of p g
unfolding step_of
step_asks p g = go (next_of p.automaton g.state)
  where
    go : (n : Next) → asks (next_step p.automaton p.outcomes g.state None n) ≡ is_waiting n
    go Next.Ended = refl
    go (Next.Goes t) = refl
    go (Next.Waits e) = refl

pub stands_asked : (p : Plan) (b : Between) → Stands p b → (out : List ℕ) (o : Output) → HandsOn out b.output o → o.gathered ≤ b.output.gathered → o.lost ≡ false → Stands p (between o b.taken b.left b.progress)
stands_asked p b s out o h fewer k = record {
  fits = let u = s.fits in omega arith;
  room = λ m. let u = s.room m in omega arith;
  within = s.within;
  went = λ m. k;
  turns = s.turns;
  few = let u = s.few in let v = h.count in omega arith;
}
