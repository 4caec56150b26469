-- What each direction has: the tests of the definitions tell the maps and numbers that the request lists.
use Rattle.std.specs.Prelude.{◌≡◌, refl, Bool, true, false, cond, List, [], ◌∷◌, ◌↔◌, ℕ, eqb, Ok, is_ok}
use Rattle.std.proofs.Common.{sym, ◌∙◌, subst, eqb-true}
use Rattle.basis.proofs.Laws.Bools.{clash}
use Rattle.run.specs.declared.Reply.{Reply}
use Rattle.link_messages.specs.declared.Message.{Message}
use Rattle.link_messages.specs.Writing.{permits}
use Rattle.link_calls.specs.Calls.{by_call_map, to_board, call_from}
use Rattle.link_calls.specs.Replies.{reply_number, numbered, naming, with_number, to_host, reply_from}
use Rattle.link_calls.proofs.Laws.Listed.{board_permits}
use Rattle.link_calls.proofs.Laws.Same.{Each}
use Rattle.demands.specs.Messages.{CallMap, ask, completion, outcome, NumberAlone, number43, number44, number50, number51, number52, number53, number54, number55, number61, number62, NumberWithNode, number41, number42, AnswerMap, start, wait, done, taken, number, node}

-- ---- numbers

alone_told : {x : ℕ} → NumberAlone x → is_ok (with_number x numbered) ≡ true
alone_told number43 = refl
alone_told number44 = refl
alone_told number50 = refl
alone_told number51 = refl
alone_told number52 = refl
alone_told number53 = refl
alone_told number54 = refl
alone_told number55 = refl
alone_told number61 = refl
alone_told number62 = refl

node_told : {x : ℕ} → NumberWithNode x → is_ok (with_number x (naming 0 0)) ≡ true
node_told number41 = refl
node_told number42 = refl

-- a number that one of the replies has
told_by_lem : (P : ℕ → Type 0) (x : ℕ) (rs : List Reply) → Each (λ r. P (reply_number r)) rs → is_ok (with_number x rs) ≡ true → P x
told_by_lem P x [] h e = clash (sym e)
told_by_lem P x (r ∷ rs) h e = go (eqb x (reply_number r)) refl e (told_by_lem P x rs h.1)
  where
    go : (t : Bool) → eqb x (reply_number r) ≡ t → is_ok (cond t (Ok r) (with_number x rs)) ≡ true → (is_ok (with_number x rs) ≡ true → P x) → P x
    go true p f later = subst P (sym (eqb-true x (reply_number r) p)) h.0
    go false p f later = later f

alone : (x : ℕ) → is_ok (with_number x numbered) ≡ true → NumberAlone x
alone x e =
    told_by_lem NumberAlone x numbered
    (number50, (number51, (number52, (number53, (number54, (number55, (number61, (number62, (number43, (number44, tt)))))))))) e

with_node : (x : ℕ) → is_ok (with_number x (naming 0 0)) ≡ true → NumberWithNode x
with_node x e = told_by_lem NumberWithNode x (naming 0 0) (number41, (number42, tt)) e

-- ---- maps

call_listed : {m : ℕ} → CallMap m → by_call_map m true true true false ≡ true
call_listed ask = refl
call_listed completion = refl
call_listed outcome = refl

listed_call : (m : ℕ) → by_call_map m true true true false ≡ true → CallMap m
listed_call m h = go (eqb m 0x01) refl (eqb m 0x07) refl (eqb m 0x0F) refl
  where
    go : (t : Bool) → eqb m 0x01 ≡ t → (u : Bool) → eqb m 0x07 ≡ u → (v : Bool) → eqb m 0x0F ≡ v → CallMap m
    go true p u q v r = subst CallMap (sym (eqb-true m 0x01 p)) ask
    go false p true q v r = subst CallMap (sym (eqb-true m 0x07 q)) completion
    go false p false q true r = subst CallMap (sym (eqb-true m 0x0F r)) outcome
    go false p false q false r = let none : by_call_map m true true true false ≡ false = rw (p, q, r) in clash (sym h ∙ none)

pub call_good : (m x : ℕ) → (permits to_board m x ≡ true) ↔ CallMap m
call_good m x = ((λ e. listed_call m (sym (board_permits m x) ∙ e)), λ c. board_permits m x ∙ call_listed c)

answer_permitted : {m x : ℕ} → AnswerMap m x → permits to_host m x ≡ true
answer_permitted start = refl
answer_permitted wait = refl
answer_permitted done = refl
answer_permitted taken = refl
answer_permitted (number h) = alone_told h
answer_permitted (node h) = node_told h

permitted_answer : (m x : ℕ) → permits to_host m x ≡ true → AnswerMap m x
permitted_answer m x h = first (eqb m 0x16) refl (eqb m 0x00) refl (eqb m 0x40) refl (eqb m 0x80) refl
  where
    at : (k : ℕ) → m ≡ k → AnswerMap k x → AnswerMap m x
    at k e a = subst (λ (n : ℕ). AnswerMap n x) (sym e) a

    given : (k : ℕ) → m ≡ k → permits to_host k x ≡ true
    given k e = subst (λ (n : ℕ). permits to_host n x ≡ true) e h

    last : eqb m 0x16 ≡ false → eqb m 0x00 ≡ false → eqb m 0x40 ≡ false → eqb m 0x80 ≡ false → (t : Bool) → eqb m 0x20 ≡ t → (u : Bool) → eqb m 0x26 ≡ u → AnswerMap m x
    last a b c d true p u q = at 0x20 (eqb-true m 0x20 p) (number (alone x (given 0x20 (eqb-true m 0x20 p))))
    last a b c d false p true q = at 0x26 (eqb-true m 0x26 q) (node (with_node x (given 0x26 (eqb-true m 0x26 q))))
    last a b c d false p false q = let none : permits to_host m x ≡ false = rw (a, b, c, d, p, q) in clash (sym h ∙ none)

    first : (t : Bool) → eqb m 0x16 ≡ t → (u : Bool) → eqb m 0x00 ≡ u → (v : Bool) → eqb m 0x40 ≡ v → (w : Bool) → eqb m 0x80 ≡ w → AnswerMap m x
    first true p u q v r w s = at 0x16 (eqb-true m 0x16 p) start
    first false p true q v r w s = at 0x00 (eqb-true m 0x00 q) wait
    first false p false q true r w s = at 0x40 (eqb-true m 0x40 r) done
    first false p false q false r true s = at 0x80 (eqb-true m 0x80 s) taken
    first false p false q false r false s = last p q r s (eqb m 0x20) refl (eqb m 0x26) refl

pub answer_good : (m x : ℕ) → (permits to_host m x ≡ true) ↔ AnswerMap m x
answer_good m x = (permitted_answer m x, answer_permitted)

-- ---- what such a message says

pub says_call : (s : Message) → permits to_board s.map s.number ≡ true → is_ok (call_from s) ≡ true
says_call s h = go s.map refl ((call_good s.map s.number).0 h)
  where
    go : (m : ℕ) → s.map ≡ m → CallMap m → is_ok (call_from s) ≡ true
    go _ e ask = rw e
    go _ e completion = rw e
    go _ e outcome = rw e

pub says_reply : (s : Message) → permits to_host s.map s.number ≡ true → is_ok (reply_from s) ≡ true
says_reply s h = go s.map s.number refl refl ((answer_good s.map s.number).0 h)
  where
    node_any : {x : ℕ} (p n : ℕ) → NumberWithNode x → is_ok (with_number x (naming p n)) ≡ true
    node_any p n number41 = refl
    node_any p n number42 = refl

    go : (m x : ℕ) → s.map ≡ m → s.number ≡ x → AnswerMap m x → is_ok (reply_from s) ≡ true
    go _ x e f start = rw e
    go _ x e f wait = rw e
    go _ x e f done = rw e
    go _ x e f taken = rw e
    go _ x e f (number k) = rw (e, f) (alone_told k)
    go _ x e f (node k) = rw (e, f) (node_any s.position s.node k)
