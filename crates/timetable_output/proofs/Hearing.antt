-- The bytes that one turn is handed and those after it begin the turns of all of them.
use Rattle.std.specs.Prelude.{◌≡◌, refl, Bool, true, false, cond, List, [], ◌∷◌, ◌++◌, ℕ, suc, Option, Some, None}
use Rattle.std.proofs.Common.{sym, ap, ◌∙◌}
use Rattle.plan.specs.declared.Plan.{Plan}
use Rattle.times.specs.declared.Progress.{Progress}
use Rattle.timetable_turns.specs.Inner.Turn.{OneTurn, turn_of, waits_of, head_of, read_after, rest_of, left_after, turns_from}
use Rattle.timetable_turns.proofs.Laws.ByTurns.{unheard}
use Rattle.timetable_turns.proofs.Laws.Hearing.{turn_heard, nothing_closes}
use Rattle.timetable_streams.specs.Inner.Asking.{heard_bytes}

-- the rest of the table after a turn, the bytes `os` left
abbrev after : Plan → ℕ → ℕ → OneTurn → List ℕ → List ℕ
after p n read x os = x.text ++ cond x.closed [] (turns_from p n (read_after x read) os x.progress)

module _ (p : Plan) (g : Progress) (n read : ℕ) where
  turn_first : (os : List ℕ) → turns_from p (suc n) read os g ≡ after p n read (turn_of p g read (head_of os)) (left_after (turn_of p g read (head_of os)) os)
  unfolding turns_from
  turn_first os = refl

  left_by : (x : OneTurn) (b : Bool) (os rest : List ℕ) → (x.closed ≡ false → x.heard ≡ b) → cond b (rest_of os) os ≡ rest → after p n read x (left_after x os) ≡ after p n read x rest
  left_by x b os rest h e = go x.closed refl
    where
      go : (c : Bool) → x.closed ≡ c → x.text ++ cond c [] (turns_from p n (read_after x read) (left_after x os) x.progress) ≡ x.text ++ cond c [] (turns_from p n (read_after x read) rest x.progress)
      go true k = refl
      go false k = ap (λ (l : List ℕ). x.text ++ turns_from p n (read_after x read) l x.progress) (ap (λ (y : Bool). cond y (rest_of os) os) (h k) ∙ e)

  closed_by : (x : OneTurn) (us vs : List ℕ) → x.closed ≡ true → after p n read x us ≡ after p n read x vs
  closed_by x us vs k =
      ap (λ (c : Bool). x.text ++ cond c [] (turns_from p n (read_after x read) us x.progress)) k
      ∙ sym (ap (λ (c : Bool). x.text ++ cond c [] (turns_from p n (read_after x read) vs x.progress)) k)

  -- none is left where the turn asked and there was none
  pub heard_on : (heard : Option ℕ) → (waits_of p g ≡ false → heard ≡ None) → (os : List ℕ) → (waits_of p g ≡ true → heard ≡ None → os ≡ [])
      → turns_from p (suc n) read (heard_bytes heard ++ os) g ≡ after p n read (turn_of p g read heard) os
  heard_on heard asked os none = go (waits_of p g) refl heard asked none
    where
      go : (b : Bool) → waits_of p g ≡ b → (h : Option ℕ) → (b ≡ false → h ≡ None) → (b ≡ true → h ≡ None → os ≡ [])
          → turns_from p (suc n) read (heard_bytes h ++ os) g ≡ after p n read (turn_of p g read h) os
      go true w None a e =
          ap (λ (l : List ℕ). turns_from p (suc n) read l g) (e refl refl)
          ∙ turn_first []
          ∙ closed_by (turn_of p g read None) (left_after (turn_of p g read None) []) os (nothing_closes p g read w)
      go true w (Some o) a e =
          turn_first (o ∷ os)
          ∙ left_by (turn_of p g read (Some o)) true (o ∷ os) os (λ k. turn_heard p g read (Some o) k ∙ w) refl
      go false w h a e =
          let y = turn_of p g read (head_of os) in
          ap (λ (x : Option ℕ). turns_from p (suc n) read (heard_bytes x ++ os) g) (a refl)
          ∙ turn_first os
          ∙ left_by y false os os (λ k. turn_heard p g read (head_of os) k ∙ w) refl
          ∙ ap (λ (x : OneTurn). after p n read x os) (unheard p g read (head_of os) w ∙ sym (ap (turn_of p g read) (a refl)))
