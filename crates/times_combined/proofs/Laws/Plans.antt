-- Every word along a path of an accepted plan is a word of good activities, and processes only what was emitted.
use Rattle.std.specs.Prelude.{◌≡◌, refl, List, [], ◌∷◌, ℕ, ◌*◌, ◌<◌, length}
use Rattle.std.proofs.Common.{sym, ap, ◌∙◌, subst}
use Rattle.basis.specs.Lists.{Among}
use Rattle.basis.proofs.Laws.PartsHold.{length_part, get_d_part}
use Rattle.plan.specs.declared.Node.{Node}
use Rattle.plan.specs.declared.Input.{Input}
use Rattle.plan.specs.declared.Output.{Output}
use Rattle.plan.specs.declared.Plan.{Plan}
use Rattle.plan.specs.Plan.{past_node, predecessors, size_of, activity_of, resource_of, emitted_by, move}
use Rattle.plan.specs.Limits.{KindNames, OutputNames, Brief, node_at}
use Rattle.activity.specs.Rules.{node}
use Rattle.times_combined.proofs.Laws.Accepted.{Good, GoodWord, Enough, Counted}
use Rattle.times_combined.specs.Paths.{word_of, Follows, Lawful}
use Rattle.times_combined.proofs.Laws.TimesEqual.{good_empty}

module _ (p : Plan) where
  -- the nodes of activity a are those that the plan stores for it
  pub size_is : (a : ℕ) → length (activity_of p a) ≡ size_of p a
  size_is a = length_part past_node p.nodes (64 * a) (size_of p a)

  pub node_is : (a n : ℕ) → n < length (activity_of p a) → node (activity_of p a) n ≡ node_at p a n
  node_is a n l = get_d_part past_node p.nodes (64 * a) (size_of p a) n (subst (λ (k : ℕ). n < k) (size_is a) l)

  module _ (lawful : Lawful p) where
    pub good_activity : (a : ℕ) → a < p.activities → Good p.resources (resource_of p) (activity_of p a)
    good_activity a below = record {
      named = λ n r h. subst (KindNames p) (ap (λ (x : Node). x.kind) (sym (node_is a n h.within)) ∙ h.kind) (lawful.file.limits.nodes a n below (inside n h.within)).names;
      brief = λ n l. subst (λ (x : Node). Brief x.kind x.duration) (sym (node_is a n l)) (lawful.file.nodes a n below (inside n l)).brief;
      inside = λ m n h.
          subst (λ (k : ℕ). m < k) (sym (size_is a))
          ((lawful.file.limits.nodes a n below (inside n h.within)).arrows m (subst (λ (x : Node). Among m (predecessors x)) (node_is a n h.within) h.from));
      meets = lawful.activities a below;
    }
      where
        inside : (n : ℕ) → n < length (activity_of p a) → n < size_of p a
        inside n l = subst (λ (k : ℕ). n < k) (size_is a) l

    good_output : (o : Output) → OutputNames p o → Good p.resources (resource_of p) (emitted_by p o)
    good_output Output.Empty l = good_empty p.resources (resource_of p)
    good_output (Output.Activity a) l = good_activity a l

    pub good_path : (s : ℕ) (is : List ℕ) (q : ℕ) → Follows p s is q → GoodWord p.resources (resource_of p) (word_of p is)
    good_path s [] q h = tt
    good_path s (i ∷ is) q h = (good_path s is (move p.automaton i).from h.0, good_output (move p.automaton i).output (lawful.file.limits.moves i h.1.0).output)

    enough : (is : List ℕ) (i : ℕ) → Follows p p.automaton.initial is (move p.automaton i).from → i < p.automaton.count → (x : Input) → (move p.automaton i).input ≡ x → Enough (word_of p is) x
    enough is i f l Input.Nothing e = tt
    enough is i f l (Input.Outcome ev u) e = lawful.automaton is i ev u f l e

    pub counted_path : (is : List ℕ) (q : ℕ) → Follows p p.automaton.initial is q → Counted (word_of p is)
    counted_path [] q h = tt
    counted_path (i ∷ is) q h = (counted_path is (move p.automaton i).from h.0, enough is i h.0 h.1.0 (move p.automaton i).input refl)
