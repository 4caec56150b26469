-- Reading and writing undo each other; a refusal depends on no later byte; the longest file.
use Rattle.std.proofs.Math.Path.{◌≡◌, refl, sym, ap, subst}
use Rattle.std.proofs.Common.{◌∙◌}
use Rattle.std.specs.Prelude.{Bool, ℕ, zero, suc, ◌+◌, ◌/◌, ◌^◌, ◌≤◌, ◌<◌}
use Rattle.std.proofs.Math.Bool.{true, false}
use mathlib.Core.List.{List, [], ◌++◌, append_assoc, append-nil}
use native.Mathlib.Omega.{arith}
use Rattle.std.proofs.Math.Decide.{dec_le}
use Rattle.std.proofs.Math.Nat.{pow-succ', zero-add}
use Rattle.std.proofs.Math.ListN.{length, length-append}
use Rattle.std.proofs.Math.Dec.{eqb}
use borrow.Author.Tests.{le-leb, lt-leb, eq-eqb}
use Rattle.wire.specs.Number.{little, bytes_of}
use Rattle.wire.proofs.Laws.Span.{Span, within, second, all}
use Rattle.wire.proofs.Laws.Fields.{length_bytes, little_bytes}
use Rattle.format.specs.Format.{Rule, Format, done, field, Found, good, fault, first, Answer, read, refused, parse, parse_all, print, Holds, result, Within, Reached, front, after, FirstOf, Faulty, short, wrong, FirstFault}
use Rattle.format.proofs.Laws.Reading.{read_found, fault_given, fault_found, on_reached}
use Rattle.format.specs.Writing.{Bytes, Agree}

pub little_below : (b : List ℕ) → Bytes b → (w at : ℕ) → little w b at < 256 ^ w
little_below b bytes zero at = omega arith
little_below b bytes (suc w) at = rw (pow-succ' 256 w) (omega (arith, bytes at, little_below b bytes w (at + 1)))

-- what is written is bytes
bytes_front : (w x : ℕ) (ys : List ℕ) → Bytes ys → Bytes (bytes_of w x ++ ys)
bytes_front zero x ys h k = h k
bytes_front (suc w) x ys h zero = omega arith
bytes_front (suc w) x ys h (suc k) = bytes_front w (x / 256) ys h k

pub printed_bytes : {S A : Type 0} (t : Format S A) (s : S) → Bytes (print t s)
unfolding print
printed_bytes (done a) s k = omega arith
printed_bytes (field w get rules rest) s k = bytes_front w (get s) (print (rest (get s)) s) (printed_bytes (rest (get s)) s) k

module _ (ends : ℕ) (order : List ℕ) (b : List ℕ) {S A : Type 0} where
  -- what a field that was passed says, forwards: one combinator for every induction on a format
  pub passed : (w : ℕ) (get : S → ℕ) (rules : ℕ → List Rule) (rest : ℕ → Format S A) (at : ℕ) (a : A) (next : ℕ) → parse ends order b (field w get rules rest) at ≡ read a next
      → (at + w ≤ length b) × (first order (rules (little w b at)) ≡ good) × (parse ends order b (rest (little w b at)) (at + w) ≡ read a next)
  unfolding parse
  passed w get rules rest at a next e =
      elim (dec_le (at + w) (length b)) [
        | no h ↦
            let d : ◌≡◌ {A = Answer A} (refused ends at) (read a next) = sym (rw (lt-leb (at + w) (length b) (omega arith))) ∙ e in
            absurd (let z : ◌≡◌ {A = ℕ} 0 1 = cc in omega arith)
        | yes h ↦ go h (first order (rules (little w b at))) refl
      ]
    where
      go : at + w ≤ length b → (f : Found) → first order (rules (little w b at)) ≡ f
          → (at + w ≤ length b) × (first order (rules (little w b at)) ≡ good) × (parse ends order b (rest (little w b at)) (at + w) ≡ read a next)
      go h good g = (h, g, sym (rw (le-leb (at + w) (length b) h, g)) ∙ e)
      go h (fault m) g =
          let d : ◌≡◌ {A = Answer A} (refused m at) (read a next) = sym (rw (le-leb (at + w) (length b) h, g)) ∙ e in
          absurd (let z : ◌≡◌ {A = ℕ} 0 1 = cc in omega arith)

  -- "No accepted plan exceeds": the length
  pub length_within : Bytes b → (n : ℕ) (t : Format S A) → Within order n t → (at : ℕ) (a : A) (next : ℕ) → parse ends order b t at ≡ read a next → next ≤ at + n
  unfolding Within parse
  length_within bytes n (done c) h at a next e = let y : at ≡ next = cc in omega arith
  length_within bytes n (field w get rules rest) h at a next e =
      let p = passed w get rules rest at a next e in
      let x = little w b at in
      omega (arith, h.1, length_within bytes h.0 (rest x) (h.2 x (little_below b bytes w at) p.1) (at + w) a next p.2)

  -- read what was written
  pub read_back : (t : Format S A) (s : S) → Holds order t s → (at next : ℕ) (ys : List ℕ) → at ≤ length b → Span b at next (print t s ++ ys)
      → parse ends order b t at ≡ read (result t s) (at + length (print t s))
  unfolding parse print Holds result
  read_back (done a) s h at next ys i sp = let e : at + 0 ≡ at = omega arith in rw e
  read_back (field w get rules rest) s h at next ys i sp =
      let x = get s in
      let zs = print (rest x) s in
      let sq : Span b at next (bytes_of w x ++ (zs ++ ys)) = subst (Span b at next) (append_assoc (bytes_of w x) zs ys) sp in
      let e = little_bytes b w at next x (zs ++ ys) h.0 sq in
      let k : at + w ≤ length b = omega (arith, within b at next (bytes_of w x ++ (zs ++ ys)) sq, length-append (bytes_of w x) (zs ++ ys), length_bytes w x) in
      let j : at + length (bytes_of w x) ≡ at + w = omega (arith, length_bytes w x) in
      let l : at + length (bytes_of w x ++ zs) ≡ at + w + length zs = omega (arith, length-append (bytes_of w x) zs, length_bytes w x) in
      rw (le-leb (at + w) (length b) k, e, h.1, l)
      (read_back (rest x) s h.2 (at + w) next ys k (subst (λ (m : ℕ). Span b m next (zs ++ ys)) j (second b at next (bytes_of w x) (zs ++ ys) sq)))

  -- what was read, written
  pub record Written (back : A → S) (t : Format S A) (at : ℕ) (a : A) (next : ℕ) : Type 0 where
    pub holds : Holds order t (back a)
    pub span : Span b at next (print t (back a))
    pub same : result t (back a) ≡ a

  -- all of the bytes: accepted exactly where they are the writing of what is read
  pub record Held (back : A → S) (t : Format S A) (a : A) : Type 0 where
    pub holds : Holds order t (back a)
    pub written : print t (back a) ≡ b
    pub same : result t (back a) ≡ a

  pub whole_read : (over : ℕ) (t : Format S A) (a : A) → parse_all ends order b over t ≡ read a (length b) → parse ends order b t 0 ≡ read a (length b)
  unfolding parse_all
  whole_read over t a e = go (parse ends order b t 0) refl
    where
      go : (r : Answer A) → parse ends order b t 0 ≡ r → parse ends order b t 0 ≡ read a (length b)
      go (refused n p) z =
          let d : ◌≡◌ {A = Answer A} (refused n p) (read a (length b)) = sym (rw z) ∙ e in
          absurd (let y : ◌≡◌ {A = ℕ} 0 1 = cc in omega arith)
      go (read c next) z = at-end (eqb next (length b)) refl
        where
          at-end : (u : Bool) → eqb next (length b) ≡ u → parse ends order b t 0 ≡ read a (length b)
          at-end true q =
              let d : ◌≡◌ {A = Answer A} (read c next) (read a (length b)) = sym (rw (z, q)) ∙ e in
              z ∙ d
          at-end false q =
              let d : ◌≡◌ {A = Answer A} (refused over next) (read a (length b)) = sym (rw (z, q)) ∙ e in
              absurd (let y : ◌≡◌ {A = ℕ} 0 1 = cc in omega arith)

  -- the writing of s is read to its end
  pub written_read : (over : ℕ) (t : Format S A) (s : S) → Holds order t s → print t s ≡ b → parse_all ends order b over t ≡ read (result t s) (length b)
  unfolding parse_all
  written_read over t s h e =
      let n : print t s ++ [] ≡ b = append-nil (print t s) ∙ e in
      let r = read_back t s h 0 (length b) [] (omega arith) (subst (Span b 0 (length b)) (sym n) (all b)) in
      let l : 0 + length (print t s) ≡ length b = zero-add (length (print t s)) ∙ ap length e in
      let q : parse ends order b t 0 ≡ read (result t s) (length b) = r ∙ rw l in
      rw (q, eq-eqb (length b) (length b) refl)

  pub held_read : (over : ℕ) (back : A → S) (t : Format S A) (a : A) → Held back t a → parse_all ends order b over t ≡ read a (length b)
  held_read over back t a h = written_read over t (back a) h.holds h.written ∙ ap (λ (c : A). read c (length b)) h.same

pub little_agree : (n : ℕ) (b c : List ℕ) → Agree n b c → (w at : ℕ) → at + w ≤ n → little w b at ≡ little w c at
little_agree n b c g zero at h = refl
little_agree n b c g (suc w) at h = rw (g.same at (omega arith), little_agree n b c g w (at + 1) (omega arith))

module _ (ends : ℕ) (order : List ℕ) (b c : List ℕ) {S A : Type 0} (start : Format S A) (from : ℕ) where
  pub reached_agree : (n : ℕ) → Agree n b c → (t : Format S A) (p : ℕ) → Reached order b start from t p → p ≤ n → Reached order c start from t p
  reached_agree n g t p front h = front
  reached_agree n g t p (after {w} {get} {rules} {rest} {p = q} r l o) h =
      let e = little_agree n b c g w q h in
      subst (λ (x : ℕ). Reached order c start from (rest x) (q + w)) (sym e)
      (after (reached_agree n g (field w get rules rest) q r (omega arith)) (omega (arith, g.long)) (rw (← e) o))

  -- a refusal at p depends on no byte past the field at p
  pub refused_local : (n p : ℕ) (f : FirstFault ends order b start from n p) → p + f.width ≤ length b → Agree (p + f.width) b c → parse ends order c start from ≡ refused n p
  refused_local n p f l g =
      fault_given ends order c start from n p
      (record {
        width = f.width;
        get = f.get;
        rules = f.rules;
        rest = f.rest;
        reached = reached_agree (p + f.width) g (field f.width f.get f.rules f.rest) p f.reached (omega arith);
        faulty = go n f.faulty;
      })
    where
      go : (m : ℕ) → Faulty ends order b f.width p f.rules m → Faulty ends order c f.width p f.rules m
      go m (short h) = absurd (omega arith)
      go m (wrong h o) = wrong g.long (subst (λ (x : ℕ). FirstOf order (f.rules x) m) (little_agree (p + f.width) b c g f.width p (omega arith)) o)

module _ (ends : ℕ) (order : List ℕ) (b : List ℕ) {S A : Type 0} (start : Format S A) (from : ℕ) where
  -- a refusal stands no earlier than any field that was reached
  pub no_earlier : (t : Format S A) (p n q : ℕ) → Reached order b start from t p → parse ends order b start from ≡ refused n q → p ≤ q
  no_earlier t p n q r e = past t p (sym (on_reached ends order b start from t p r) ∙ e)
    where
      past : (t : Format S A) (p : ℕ) → parse ends order b t p ≡ refused n q → p ≤ q
      past t p e = go t p (fault_found ends order b t p t p front n q e).reached
        where
          go : (t : Format S A) (p : ℕ) {u : Format S A} {q : ℕ} → Reached order b t p u q → p ≤ q
          go t p front = omega arith
          go t p (after {w} {p = m} r h g) = omega (arith, go t p r)

  -- nor does the end of a file
  pub no_earlier_end : (t : Format S A) (p : ℕ) (a : A) (q : ℕ) → Reached order b start from t p → parse ends order b start from ≡ read a q → p ≤ q
  no_earlier_end t p a q r e = past t p (sym (on_reached ends order b start from t p r) ∙ e)
    where
      past : (t : Format S A) (p : ℕ) → parse ends order b t p ≡ read a q → p ≤ q
      past t p e = go t p (read_found ends order b t p t p front a q e)
        where
          go : (t : Format S A) (p : ℕ) {u : Format S A} {q : ℕ} → Reached order b t p u q → p ≤ q
          go t p front = omega arith
          go t p (after {w} {p = m} r h g) = omega (arith, go t p r)
