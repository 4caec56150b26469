-- Entries are put one after the other: one node's turn, and what is kept of all of them in the end. Assumes nothing.
use Rattle.std.specs.Prelude.{◌≡◌, refl, Bool, true, false, List, [], ◌∷◌, ◌++◌, ℕ, zero, suc, ◌+◌, ◌-◌, ◌≤◌, ◌<◌, length, get_or, set, take, replicate}
use Rattle.std.proofs.Common.{sym, ◌∙◌, arith}
use Rattle.std.proofs.Math.Path.{ap}
use Rattle.std.proofs.Math.Bool.{cond}
use Rattle.basis.specs.Parts.{part}
use Rattle.basis.proofs.Laws.Parts.{part_step, part_end}
use Rattle.plan.specs.Plan.{past_node}
use Rattle.plan.specs.declared.Node.{Node}
use Rattle.times.specs.declared.Schedule.{Schedule}
use Rattle.run_window.specs.Window.{vacant, placed}
use Rattle.run_window.proofs.Laws.Placed.{placed_none}
use Rattle.run_window.specs.declared.Entry.{Entry}
use Rattle.run_path.specs.declared.Pathed.{Pathed}
use Rattle.run_path.specs.Path.{Path, is_work, loaded, entries_from}
use Rattle.run_path.specs.Pathed.{firsts, pathed}
use Rattle.run_path.specs.Inner.Path.{put}

pub set_outside : {A : Type 0} (l : List A) (i : ℕ) (x : A) → length l ≤ i → set l i x ≡ l
set_outside [] i x h = refl
set_outside (y ∷ l) zero x h = absurd (omega arith)
set_outside (y ∷ l) (suc i) x h = ap (λ (m : List _). y ∷ m) (set_outside l i x (omega arith))

-- ---- one node's turn

abbrev pub rest : ℕ → ℕ → Schedule → List Node → ℕ → ℕ → List Entry
rest position a s l size n = entries_from position a s n (part past_node l n (size - n))

module _ (position a : ℕ) (s : Schedule) (l : List Node) (size : ℕ) where
  pub rest_all : entries_from position a s 0 (part past_node l 0 size) ≡ rest position a s l size 0
  rest_all = let z : size ≡ size - 0 = omega arith in ap (λ (k : ℕ). entries_from position a s 0 (part past_node l 0 k)) z

  -- the node has an entry, or has none
  pub rest_by_lem : (n : ℕ) → n < size → (b : Bool) → is_work (get_or l n past_node).kind ≡ b → rest position a s l size n ≡ cond b (loaded position a s n ∷ rest position a s l size (n + 1)) (rest position a s l size (n + 1))
  unfolding entries_from
  rest_by_lem n h b e =
      ap (entries_from position a s n) (part_step past_node l n size h)
      ∙ ap (λ (x : Bool). cond x (loaded position a s n ∷ rest position a s l size (n + 1)) (rest position a s l size (n + 1))) e

  pub rest_none : (n : ℕ) → size ≤ n → rest position a s l size n ≡ []
  unfolding entries_from
  rest_none n h = ap (entries_from position a s n) (part_end past_node l n size h)

-- ---- all of them

pub put_append : (l : List Entry) (i : ℕ) (es fs : List Entry) → put l i (es ++ fs) ≡ put (put l i es) (i + length es) fs
unfolding put
put_append l i [] fs = let z : i ≡ i + 0 = omega arith in ap (λ (k : ℕ). put l k fs) z
put_append l i (e ∷ es) fs =
    let z : i + 1 + length es ≡ i + suc (length es) = omega arith in
    put_append (set l i e) (i + 1) es fs ∙ ap (λ (k : ℕ). put (put (set l i e) (i + 1) es) k fs) z

firsts_more : (n : ℕ) (es : List Entry) (e : Entry) → set (firsts n es) (length es) e ≡ firsts n (es ++ (e ∷ []))
unfolding firsts
firsts_more zero es e = refl
firsts_more (suc n) [] e = refl
firsts_more (suc n) (x ∷ es) e = ap (λ (m : List Entry). x ∷ m) (firsts_more n es e)

append_more : (ds : List Entry) (e : Entry) (es : List Entry) → (ds ++ (e ∷ [])) ++ es ≡ ds ++ (e ∷ es)
append_more [] e es = refl
append_more (d ∷ ds) e es = ap (λ (m : List Entry). d ∷ m) (append_more ds e es)

length_more : (ds : List Entry) (e : Entry) → length ds + 1 ≡ length (ds ++ (e ∷ []))
length_more [] e = refl
length_more (d ∷ ds) e = let u = length_more ds e in omega arith

put_firsts : (n : ℕ) (ds es : List Entry) → put (firsts n ds) (length ds) es ≡ firsts n (ds ++ es)
unfolding put
put_firsts n ds [] = ap (firsts n) (sym (append_none ds))
  where
    append_none : (xs : List Entry) → xs ++ [] ≡ xs
    append_none [] = refl
    append_none (x ∷ xs) = ap (λ (m : List Entry). x ∷ m) (append_none xs)
put_firsts n ds (e ∷ es) =
    ap (λ (l : List Entry). put l (length ds + 1) es) (firsts_more n ds e)
    ∙ ap (λ (k : ℕ). put (firsts n (ds ++ (e ∷ []))) k es) (length_more ds e)
    ∙ put_firsts n (ds ++ (e ∷ [])) es
    ∙ ap (firsts n) (append_more ds e es)

firsts_none : (n : ℕ) → replicate n vacant ≡ firsts n []
unfolding firsts
firsts_none zero = refl
firsts_none (suc n) = ap (λ (m : List Entry). vacant ∷ m) (firsts_none n)

-- put into vacant places, they are the first ones
pub put_vacant : (n : ℕ) (es : List Entry) → put (replicate n vacant) 0 es ≡ firsts n es
put_vacant n es = ap (λ (l : List Entry). put l 0 es) (firsts_none n) ∙ put_firsts n [] es

-- as many of the first n as there are, are all of them
pub take_firsts : (n : ℕ) (es : List Entry) → length es ≤ n → take (length es) (firsts n es) ≡ es
unfolding firsts
take_firsts n [] h = refl
take_firsts zero (e ∷ es) h = absurd (omega arith)
take_firsts (suc n) (e ∷ es) h = ap (λ (m : List Entry). e ∷ m) (take_firsts n es (omega arith))

-- ---- how many

pub entries_few : (position a : ℕ) (s : Schedule) (n : ℕ) (xs : List Node) → length (entries_from position a s n xs) ≤ length xs
unfolding entries_from
entries_few position a s n [] = omega arith
entries_few position a s n (x ∷ xs) = go (is_work x.kind) (entries_few position a s (n + 1) xs)
  where
    go : (b : Bool) → length (entries_from position a s (n + 1) xs) ≤ length xs → length (cond b (loaded position a s n ∷ entries_from position a s (n + 1) xs) (entries_from position a s (n + 1) xs)) ≤ suc (length xs)
    go true u = omega arith
    go false u = omega arith

-- ---- as many as there are places

firsts_length : (n : ℕ) (es : List Entry) → length (firsts n es) ≡ n
unfolding firsts
firsts_length zero es = refl
firsts_length (suc n) [] = ap suc (firsts_length n [])
firsts_length (suc n) (e ∷ es) = ap suc (firsts_length n es)

pub pathed_long : (q : Path) (r : Pathed) → r ≡ pathed q → length r.entries ≡ 512
unfolding pathed
pathed_long q r e = ap (λ (x : Pathed). length x.entries) e ∙ firsts_length 512 q.entries

-- they are what an empty window then holds
pub placed_firsts : (n : ℕ) (es : List Entry) → placed (replicate n vacant) es ≡ firsts n es
unfolding placed firsts
placed_firsts zero es = refl
placed_firsts (suc n) [] = ap (λ (l : List Entry). vacant ∷ l) (sym (placed_none (replicate n vacant)) ∙ placed_firsts n [])
placed_firsts (suc n) (e ∷ es) = ap (λ (l : List Entry). e ∷ l) (placed_firsts n es)
