-- The kind of a node of the word is the one that the plan stores for it in the activity at its position.
use Rattle.std.specs.Prelude.{◌≡◌, List, ◌∷◌, ℕ, suc, ◌*◌}
use Rattle.std.proofs.Common.{sym, ap, ◌∙◌, subst, arith}
use Rattle.basis.proofs.Laws.PartsHold.{length_part, get_d_part}
use Rattle.plan.specs.Plan.{past_node, move, emitted_by, activity_of, size_of, resource_of}
use Rattle.plan.specs.Limits.{node_at}
use Rattle.plan.specs.declared.Kind.{Kind}
use Rattle.plan.specs.declared.Node.{Node}
use Rattle.plan.specs.declared.Output.{Output}
use Rattle.plan.specs.declared.Plan.{Plan}
use Rattle.times_combined.specs.Word.{size}
use Rattle.times_combined.proofs.Laws.Accepted.{GoodWord}
use Rattle.times_combined.specs.Combined.{Joined, Nodes, identity}
use Rattle.times_combined.specs.Paths.{word_of}
use Rattle.times_combined.proofs.Laws.Shape.{node_place_lem, sort}
use Rattle.times_combined.proofs.Laws.Unique.{shape_of}
use Rattle.demands_theory.specs.Nodes.{EmitsAt, here, earlier}
use Rattle.demands_theory.specs.TheWord.{whole_of}
use Rattle.demands_theory.proofs.Laws.Nodes.{emits_below_lem}
use Rattle.demands_run.proofs.Laws.Taken.{size_is}

module _ (p : Plan) where
  own_kind : (q n : ℕ) (k : Kind) (d w a : ℕ) (o : Output) → o ≡ Output.Activity a → Nodes p.resources w (emitted_by p o) (identity q n) k d → (node_at p a n).kind ≡ k
  own_kind q n k d w a o e h =
      let h1 : Nodes p.resources w (activity_of p a) (identity q n) k d = subst (λ (z : Output). Nodes p.resources w (emitted_by p z) (identity q n) k d) e h in
      let s = sort p.resources w (activity_of p a) (identity q n) k d h1 in
      let l = length_part past_node p.nodes (64 * a) (size_of p a) in
      let l1 = s.0 in
      ap (λ (x : Node). x.kind) (sym (get_d_part past_node p.nodes (64 * a) (size_of p a) n (omega arith))) ∙ s.1

  pub kind_is : (is : List ℕ) → GoodWord p.resources (resource_of p) (word_of p is) → (q a : ℕ) → EmitsAt p is q a → (n : ℕ) (k : Kind) (d : ℕ) → (whole_of p is).Holds (identity q n) k d → (node_at p a n).kind ≡ k
  kind_is mathlib.Core.List.[] ok q a x3 n k d _ = elim x3 [ ]
  kind_is (i ∷ is) ok q a (here e o) n k d (Joined.left h nr) =
      absurd (let u = (shape_of p.resources (resource_of p) (word_of p is) ok.0).places (identity q n) k d h in let v = size_is p is in omega arith)
  kind_is (i ∷ is) ok q a (here e o) n k d (Joined.right h nc) = own_kind q n k d (suc (size (word_of p is))) a (move p.automaton i).output o h
  kind_is (i ∷ is) ok q a (earlier m) n k d (Joined.left h nr) = kind_is is ok.0 q a m n k d h
  kind_is (i ∷ is) ok q a (earlier m) n k d (Joined.right h nc) =
      absurd (let u = node_place_lem p.resources (suc (size (word_of p is))) (emitted_by p (move p.automaton i).output) (identity q n) k d h in let v = size_is p is in let x = emits_below_lem p is q a m in omega arith)
