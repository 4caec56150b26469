-- `rows`: the rows of the timetable are those of the actions and events of the combined activity, each once, by position and node.
use Rattle.std.specs.Prelude.{◌≡◌, refl, Bool, true, false, cond, List, [], ◌∷◌, ◌++◌, ◌⊎◌, ℕ, zero, suc, ◌+◌, ◌<◌, length, get_or}
use Rattle.std.proofs.Common.{sym, ap, ◌∙◌, subst, append_assoc, inl, inr, arith}
use Rattle.basis.specs.Lists.{Among}
use Rattle.plan.specs.Plan.{past_node, move, emitted_by}
use Rattle.plan.specs.declared.Kind.{Kind}
use Rattle.plan.specs.declared.Node.{Node}
use Rattle.plan.specs.declared.Output.{Output}
use Rattle.plan.specs.declared.Plan.{Plan}
use Rattle.activity.specs.Rules.{node}
use Rattle.times_combined.specs.Word.{size}
use Rattle.times_combined.specs.Combined.{Ident, identity, Nodes, Joined}
use Rattle.times_combined.specs.Paths.{word_of}
use Rattle.times_combined.proofs.Laws.Shape.{node_place_lem, sort}
use Rattle.run_path.specs.Path.{is_work, activity_number}
use Rattle.demands_log.specs.Log.{Id}
use Rattle.demands_theory.specs.Nodes.{Working, Work, EmitsAt, here, earlier}
use Rattle.demands_theory.proofs.Laws.Nodes.{not_claim, not_release}
use Rattle.demands_theory.specs.TheWord.{whole_of}
use Rattle.demands_run.proofs.Laws.Taken.{size_is}
use Rattle.demands_run.proofs.Laws.Loaded.{work_working, working_work}
use Rattle.demands.specs.Timetables.{node_rows, rows_of}
use Rattle.demands.specs.Rows.{Row, line_of, lines_of, Above, Sorted, StatementRows}

-- ---- lists of rows

lines-append : (S E : Ident → ℕ) (xs ys : List Row) → lines_of S E (xs ++ ys) ≡ lines_of S E xs ++ lines_of S E ys
lines-append S E [] ys = refl
lines-append S E (x ∷ xs) ys = ap (λ (z : List ℕ). line_of S E x ++ z) (lines-append S E xs ys) ∙ sym (append_assoc (line_of S E x) (lines_of S E xs) (lines_of S E ys))

either : (x : Row) (xs ys : List Row) → Among x (xs ++ ys) → Among x xs ⊎ Among x ys
either x [] ys h = inr h
either x (y ∷ xs) ys (inl e) = inl (inl e)
either x (y ∷ xs) ys (inr h) = elim (either x xs ys h) [ inl z ↦ inl (inr z) | inr z ↦ inr z ]

in_front : (x : Row) (xs ys : List Row) → Among x xs → Among x (xs ++ ys)
in_front x [] ys x'' = elim x'' [ ]
in_front x (y ∷ xs) ys (inl e) = inl e
in_front x (y ∷ xs) ys (inr h) = inr (in_front x xs ys h)

behind : (x : Row) (xs ys : List Row) → Among x ys → Among x (xs ++ ys)
behind x [] ys h = h
behind x (y ∷ xs) ys h = inr (behind x xs ys h)

sorted_append : (xs ys : List Row) → Sorted xs → Sorted ys → ((x y : Row) → Among x xs → Among y ys → Above x y) → Sorted (xs ++ ys)
sorted_append [] ys s t h = t
sorted_append (x ∷ xs) ys s t h = (
  λ y m. elim (either y xs ys m) [ inl z ↦ s.0 y z | inr z ↦ h x y (inl refl) z ],
  sorted_append xs ys s.1 t (λ z y m n. h z y (inr m) n),
)

-- ---- the rows of one position

abbrev row_at : ℕ → ℕ → ℕ → Row
row_at q a n = record { id = record { position = q; node = n }; activity = a }

abbrev node_list : ℕ → ℕ → ℕ → List Node → List Row
node_list q a n [] = []
node_list q a n (x ∷ xs) = cond (is_work x.kind) (row_at q a n ∷ []) [] ++ node_list q a (n + 1) xs

module _ (q a : ℕ) where
  node_lines : (S E : Ident → ℕ) (n : ℕ) (xs : List Node) → node_rows q a S E n xs ≡ lines_of S E (node_list q a n xs)
  node_lines S E n [] = refl
  node_lines S E n (x ∷ xs) = by (is_work x.kind) (node_lines S E (n + 1) xs)
    where
      by : (b : Bool) → node_rows q a S E (n + 1) xs ≡ lines_of S E (node_list q a (n + 1) xs)
          → cond b (line_of S E (row_at q a n)) [] ++ node_rows q a S E (n + 1) xs ≡ lines_of S E (cond b (row_at q a n ∷ []) [] ++ node_list q a (n + 1) xs)
      by true e = ap (λ (z : List ℕ). line_of S E (row_at q a n) ++ z) e
      by false e = e

  -- a row is that of an action or event of the activity
  record Of (n : ℕ) (xs : List Node) (x : Row) : Type 0 where
    number : ℕ
    within : number < length xs
    work : is_work (get_or xs number past_node).kind ≡ true
    row : x ≡ row_at q a (n + number)

  of_later : (n : ℕ) (x : Node) (xs : List Node) (y : Row) → Of (n + 1) xs y → Of n (x ∷ xs) y
  of_later n x xs y h =
      let z : n + 1 + h.number ≡ n + suc h.number = omega arith in
      record { number = suc h.number; within = (let u = h.within in omega arith); work = h.work; row = h.row ∙ ap (row_at q a) z }

  node_of_lem : (n : ℕ) (xs : List Node) (y : Row) → Among y (node_list q a n xs) → Of n xs y
  node_of_lem n [] y h = elim h [ ]
  node_of_lem n (x ∷ xs) y h = by (is_work x.kind) refl h (λ k. node_of_lem (n + 1) xs y k)
    where
      by : (b : Bool) → is_work x.kind ≡ b → Among y (cond b (row_at q a n ∷ []) [] ++ node_list q a (n + 1) xs) → (Among y (node_list q a (n + 1) xs) → Of (n + 1) xs y) → Of n (x ∷ xs) y
      by true e (inl r) on = let z : n ≡ n + 0 = omega arith in record { number = 0; within = omega arith; work = e; row = r ∙ ap (row_at q a) z }
      by true e (inr k) on = of_later n x xs y (on k)
      by false e k on = of_later n x xs y (on k)

  node_in : (n : ℕ) (xs : List Node) (i : ℕ) → i < length xs → is_work (get_or xs i past_node).kind ≡ true → Among (row_at q a (n + i)) (node_list q a n xs)
  node_in n [] i h w = absurd (omega arith)
  node_in n (x ∷ xs) zero h w = let z : n + 0 ≡ n = omega arith in rw w (inl (ap (row_at q a) z))
  node_in n (x ∷ xs) (suc i) h w =
      let z : n + 1 + i ≡ n + suc i = omega arith in
      behind _ (cond (is_work x.kind) (row_at q a n ∷ []) []) (node_list q a (n + 1) xs) (subst (λ (k : ℕ). Among (row_at q a k) (node_list q a (n + 1) xs)) z (node_in (n + 1) xs i (omega arith) w))

  node_sorted : (n : ℕ) (xs : List Node) → Sorted (node_list q a n xs)
  node_sorted n [] = tt
  node_sorted n (x ∷ xs) = by (is_work x.kind) (node_sorted (n + 1) xs)
    where
      first : (y : Row) → Among y (node_list q a (n + 1) xs) → Above (row_at q a n) y
      first y m =
          let o = node_of_lem (n + 1) xs y m in
          let u = ap (λ (z : Row). z.id.node) o.row in
          inr (sym (ap (λ (z : Row). z.id.position) o.row), omega arith)

      by : (b : Bool) → Sorted (node_list q a (n + 1) xs) → Sorted (cond b (row_at q a n ∷ []) [] ++ node_list q a (n + 1) xs)
      by true s = (first, s)
      by false s = s

-- ---- the rows of a word

abbrev list_of : Plan → List ℕ → List Row
list_of p [] = []
list_of p (t ∷ is) = list_of p is ++ node_list (size (word_of p is)) (activity_number (move p.automaton t).output) 0 (emitted_by p (move p.automaton t).output)

lines : (p : Plan) (S E : Ident → ℕ) (is : List ℕ) → rows_of p is S E ≡ lines_of S E (list_of p is)
lines p S E [] = refl
lines p S E (t ∷ is) =
    let q = size (word_of p is) in
    let a = activity_number (move p.automaton t).output in
    let xs = emitted_by p (move p.automaton t).output in
    ap (λ (z : List ℕ). z ++ node_rows q a S E 0 xs) (lines p S E is) ∙ ap (λ (z : List ℕ). lines_of S E (list_of p is) ++ z) (node_lines q a S E 0 xs)
    ∙ sym (lines-append S E (list_of p is) (node_list q a 0 xs))

-- positions are below the word's length
low : (p : Plan) (is : List ℕ) (x : Row) → Among x (list_of p is) → x.id.position < size (word_of p is)
low p [] x h = elim h [ ]
low p (t ∷ is) x h =
    let q = size (word_of p is) in
    let a = activity_number (move p.automaton t).output in
    let xs = emitted_by p (move p.automaton t).output in
    elim (either x (list_of p is) (node_list q a 0 xs) h) [
      | inl m ↦ let u = low p is x m in omega arith
      | inr m ↦ let u : x.id.position ≡ q = ap (λ (z : Row). z.id.position) (node_of_lem q a 0 xs x m).row in omega arith
    ]

sorted : (p : Plan) (is : List ℕ) → Sorted (list_of p is)
sorted p [] = tt
sorted p (t ∷ is) =
    let q = size (word_of p is) in
    let a = activity_number (move p.automaton t).output in
    let xs = emitted_by p (move p.automaton t).output in
    sorted_append (list_of p is) (node_list q a 0 xs) (sorted p is) (node_sorted q a 0 xs) (λ x y m n.
    let u = low p is x m in
    let o = node_of_lem q a 0 xs y n in
    let v = ap (λ (z : Row). z.id.position) o.row in
    inl (omega arith))

-- an activity that has a node is one of the plan's
output_is : (p : Plan) (o : Output) (n : ℕ) → n < length (emitted_by p o) → o ≡ Output.Activity (activity_number o)
output_is p Output.Empty n h = absurd (omega arith)
output_is p (Output.Activity a) n h = refl

module _ (p : Plan) where
  all : (is : List ℕ) (x : Row) → Among x (list_of p is) → Work (whole_of p is) x.id × EmitsAt p is x.id.position x.activity
  all [] x h = elim h [ ]
  all (t ∷ is) x h = by (either x (list_of p is) _ h) (λ m. all is x m)
    where
      xs : List Node
      xs = emitted_by p (move p.automaton t).output

      here_at : (i : ℕ) → i < length xs → is_work (get_or xs i past_node).kind ≡ true → (y : Row) → y ≡ row_at (size (word_of p is)) (activity_number (move p.automaton t).output) i
          → Work (whole_of p (t ∷ is)) y.id × EmitsAt p (t ∷ is) y.id.position y.activity
      here_at i h w y e =
          let k = (node xs i).kind in
          subst (λ (z : Row). Work (whole_of p (t ∷ is)) z.id × EmitsAt p (t ∷ is) z.id.position z.activity) (sym e)
          ((k, ((node xs i).duration, Joined.right (Nodes.own h refl refl) (not_claim k (work_working k w))), work_working k w), here (size_is p is) (output_is p (move p.automaton t).output i h))

      by : Among x (list_of p is) ⊎ Among x (node_list (size (word_of p is)) (activity_number (move p.automaton t).output) 0 xs)
          → (Among x (list_of p is) → Work (whole_of p is) x.id × EmitsAt p is x.id.position x.activity) → Work (whole_of p (t ∷ is)) x.id × EmitsAt p (t ∷ is) x.id.position x.activity
      by (inl m) on =
          let r = on m in
          let w = r.0 in
          ((w.0, (w.1.0, Joined.left w.1.1 (not_release w.0 w.2)), w.2), earlier r.1)
      by (inr m) on =
          let o = node_of_lem (size (word_of p is)) (activity_number (move p.automaton t).output) 0 xs x m in
          let z : 0 + o.number ≡ o.number = omega arith in
          here_at o.number o.within o.work x (o.row ∙ ap (row_at (size (word_of p is)) (activity_number (move p.automaton t).output)) z)

  no_open : {A : Type 0} (x : Ident) (k : Kind) (d : ℕ) → Nodes p.resources 0 [] x k d → Working k → A
  no_open x k d (Nodes.own h e g) w = absurd (omega arith)
  no_open x k d (Nodes.claim h u) w = absurd w
  no_open x k d (Nodes.release h u) w = absurd w

  only : (is : List ℕ) (x : Id) (k : Kind) (d : ℕ) → (whole_of p is).Holds (identity x.position x.node) k d → Working k → (a : ℕ) × Among (record { id = x; activity = a }) (list_of p is)
  only [] x k d h w = no_open _ k d h w
  only (t ∷ is) x k d (Joined.left h nr) w = let r = only is x k d h w in (r.0, in_front _ (list_of p is) _ r.1)
  only (t ∷ is) x k d (Joined.right h nc) w =
      let xs = emitted_by p (move p.automaton t).output in
      let q = size (word_of p is) in
      let a = activity_number (move p.automaton t).output in
      let u = node_place_lem p.resources (suc q) xs (identity x.position x.node) k d h in
      let s = sort p.resources (suc q) xs (identity x.position x.node) k d h in
      let e : x.position ≡ q = omega arith in
      let z : 0 + x.node ≡ x.node = omega arith in
      let m : Among (row_at q a x.node) (node_list q a 0 xs) = rw z at (node_in q a 0 xs x.node s.0 (rw s.1 (working_work k w))) in
      (a, behind _ (list_of p is) (node_list q a 0 xs) (subst (λ (j : ℕ). Among (row_at j a x.node) (node_list q a 0 xs)) (sym e) m))

pub rows : StatementRows
rows p is S E = record {
  list = list_of p is;
  all = all p is;
  only = λ x w. only p is x w.0 w.1.0 w.1.1 w.2;
  sorted = sorted p is;
  printed = lines p S E is;
}
