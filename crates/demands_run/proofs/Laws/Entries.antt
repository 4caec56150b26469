-- The entries that one transition brings: one for each action and event of its activity, by rising node numbers.
use Rattle.std.specs.Prelude.{◌≡◌, Bool, cond, length, get_or}
use Rattle.std.proofs.Math.Path.{refl, ap}
use Rattle.std.proofs.Common.{◌∙◌, subst, inl, inr}
use Rattle.std.proofs.Math.Bool.{true, false}
use mathlib.Core.List.{List, [], ◌∷◌}
use Prim.Native.Nat.{ℕ, zero, suc, ◌+◌, ◌≤◌, ◌<◌}
use native.Mathlib.Omega.{arith}
use Rattle.std.proofs.Math.Decide.{dec_lt}
use Rattle.basis.specs.Lists.{Among}
use Rattle.basis.proofs.Laws.Lists.{among_at}
use Rattle.plan.specs.Plan.{past_node}
use Rattle.plan.specs.declared.Node.{Node}
use Rattle.times.specs.declared.Schedule.{Schedule}
use Rattle.run_path.specs.Path.{is_work, loaded, entries_from}
use Rattle.run_window.specs.Window.{vacant}
use Rattle.run_window.specs.declared.Entry.{Entry}

module _ (position a : ℕ) (s : Schedule) where
  -- entry e is that of node n + i, an action or an event
  pub record Brought (n : ℕ) (xs : List Node) (e : Entry) : Type 0 where
    pub number : ℕ
    pub within : number < length xs
    pub work : is_work (get_or xs number past_node).kind ≡ true
    pub entry : e ≡ loaded position a s (n + number)

  brought_later : (n : ℕ) (x : Node) (xs : List Node) (e : Entry) → Brought (n + 1) xs e → Brought n (x ∷ xs) e
  brought_later n x xs e b =
      let z : n + 1 + b.number ≡ n + suc b.number = omega arith in
      record { number = suc b.number; within = (let u = b.within in omega arith); work = b.work; entry = b.entry ∙ ap (loaded position a s) z }

  pub brought : (n : ℕ) (xs : List Node) (e : Entry) → Among e (entries_from position a s n xs) → Brought n xs e
  unfolding entries_from
  brought n [] e h = absurd h
  brought n (x ∷ xs) e h = go (is_work x.kind) refl h (λ k. brought (n + 1) xs e k)
    where
      go : (b : Bool) → is_work x.kind ≡ b → Among e (cond b (loaded position a s n ∷ entries_from position a s (n + 1) xs) (entries_from position a s (n + 1) xs))
          → (Among e (entries_from position a s (n + 1) xs) → Brought (n + 1) xs e) → Brought n (x ∷ xs) e
      go true q (inl z) k = let y : n ≡ n + 0 = omega arith in record { number = 0; within = omega arith; work = q; entry = z ∙ ap (loaded position a s) y }
      go true q (inr z) k = brought_later n x xs e (k z)
      go false q z k = brought_later n x xs e (k z)

  pub brings : (n : ℕ) (xs : List Node) (i : ℕ) → i < length xs → is_work (get_or xs i past_node).kind ≡ true → Among (loaded position a s (n + i)) (entries_from position a s n xs)
  unfolding entries_from
  brings n [] i l w = absurd (omega arith)
  brings n (x ∷ xs) zero l w = let y : n + 0 ≡ n = omega arith in rw w (inl (ap (loaded position a s) y))
  brings n (x ∷ xs) (suc i) l w = go (is_work x.kind) (subst (λ (k : ℕ). Among (loaded position a s k) (entries_from position a s (n + 1) xs)) y (brings (n + 1) xs i (omega arith) w))
    where
      y : n + 1 + i ≡ n + suc i
      y = omega arith

      go : (b : Bool) → Among (loaded position a s (n + suc i)) (entries_from position a s (n + 1) xs) → Among (loaded position a s (n + suc i)) (cond b (loaded position a s n ∷ entries_from position a s (n + 1) xs) (entries_from position a s (n + 1) xs))
      go true h = inr h
      go false h = h

  above : (n : ℕ) (xs : List Node) (k : ℕ) → k < length (entries_from position a s n xs) → n ≤ (get_or (entries_from position a s n xs) k vacant).node
  above n xs k l =
      let b = brought n xs (get_or (entries_from position a s n xs) k vacant) (among_at vacant (entries_from position a s n xs) k l) in
      let u = ap (λ (e : Entry). e.node) b.entry in
      omega arith

  abbrev pub Rises : List Entry → Type 0
  Rises es = (k l : ℕ) → k < l → l < length es → (get_or es k vacant).node < (get_or es l vacant).node

  pub rises : (n : ℕ) (xs : List Node) → Rises (entries_from position a s n xs)
  unfolding entries_from
  rises n [] = λ k l h m. absurd (omega arith)
  rises n (x ∷ xs) = go (is_work x.kind) (rises (n + 1) xs)
    where
      front : Rises (entries_from position a s (n + 1) xs) → Rises (loaded position a s n ∷ entries_from position a s (n + 1) xs)
      front r zero zero h m = absurd (omega arith)
      front r zero (suc l) h m = let u = above (n + 1) xs l (omega arith) in omega arith
      front r (suc k) zero h m = absurd (omega arith)
      front r (suc k) (suc l) h m = r k l (omega arith) (omega arith)

      go : (b : Bool) → Rises (entries_from position a s (n + 1) xs) → Rises (cond b (loaded position a s n ∷ entries_from position a s (n + 1) xs) (entries_from position a s (n + 1) xs))
      go true r = front r
      go false r = r

  -- no node is brought twice
  pub different : (n : ℕ) (xs : List Node) (k l : ℕ) → k < length (entries_from position a s n xs) → l < length (entries_from position a s n xs)
      → (get_or (entries_from position a s n xs) k vacant).node ≡ (get_or (entries_from position a s n xs) l vacant).node → k ≡ l
  different n xs k l hk hl e = go (dec_lt k l) (dec_lt l k)
    where
      go : Dec (k < l) → Dec (l < k) → k ≡ l
      go (yes u) d = absurd (let r = rises n xs k l u hl in omega arith)
      go (no u) (yes v) = absurd (let r = rises n xs l k v hk in omega arith)
      go (no u) (no v) = omega arith
