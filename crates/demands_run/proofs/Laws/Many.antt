-- The window would pass 512 exactly if more than 512 actions and events of the longer word are unreported.
use Rattle.std.specs.Prelude.{◌≡◌, refl, Bool, true, false, cond, List, [], ◌∷◌, ◌++◌, map, ℕ, zero, suc, ◌+◌, ◌≤◌, ◌<◌, length}
use Rattle.std.proofs.Common.{sym, ap, ◌∙◌, subst, inl, inr, ⊎_elim, arith, length-append}
use Rattle.std.proofs.lemmas.List.{length-map}
use Rattle.basis.specs.Lists.{Among, Distinct}
use Rattle.basis.proofs.Laws.Lists.{among_left, among_right, among_either, map_among, distinct_both, fewer}
use Rattle.basis.proofs.Laws.Bools.{clash, by_test}
use Rattle.plan.specs.declared.Plan.{Plan}
use Rattle.run_window.specs.Window.{is_free, vacancies}
use Rattle.run_window.proofs.Laws.Tests.{unfree_held, held_unfree}
use Rattle.run_window.specs.Places.{Holds}
use Rattle.run_window.specs.declared.Entry.{Entry}
use Rattle.run_window.proofs.Laws.Places.{Once}
use Rattle.demands_log.specs.Log.{Id, Log, Reported}
use Rattle.demands_theory.proofs.Laws.Machine.{Held}
use Rattle.demands_theory.specs.Nodes.{Work, length_of, id_of}
use Rattle.demands_theory.specs.TheWord.{whole_of}
use Rattle.demands_theory.specs.Loading.{Unreported, TooMany}
use Rattle.demands_run.proofs.Laws.PathNodes.{Brings}

-- ---- the nodes that a window holds

ids : List Entry → List Id
ids [] = []
ids (e ∷ w) = cond (is_free e.phase) (ids w) (id_of e ∷ ids w)

ids_length : (w : List Entry) → length (ids w) + vacancies w ≡ length w
unfolding ids vacancies
ids_length [] = refl
ids_length (e ∷ w) = go (is_free e.phase) (ids_length w)
  where
    go : (b : Bool) → length (ids w) + vacancies w ≡ length w → length (cond b (ids w) (id_of e ∷ ids w)) + cond b (suc (vacancies w)) (vacancies w) ≡ suc (length w)
    go true h = omega arith
    go false h = omega arith

-- each stands at a place
ids_at : (w : List Entry) (x : Id) → Among x (ids w) → (i : ℕ) × (e : Entry) × Holds w i e × (id_of e ≡ x)
unfolding ids
ids_at [] x = λ m. absurd m
ids_at (e ∷ w) x = by_test (λ (l : List Id). Among x l → (i : ℕ) × (f : Entry) × Holds (e ∷ w) i f × (id_of f ≡ x)) (is_free e.phase) _ _ (λ b m. later (ids_at w x m)) (λ b m. go b (λ k. ids_at w x k) m)
  where
    later : (i : ℕ) × (f : Entry) × Holds w i f × (id_of f ≡ x) → (i : ℕ) × (f : Entry) × Holds (e ∷ w) i f × (id_of f ≡ x)
    later r = (suc r.0, r.1, record { entry = r.2.entry; held = r.2.held }, r.3)

    go : is_free e.phase ≡ false → (Among x (ids w) → (i : ℕ) × (f : Entry) × Holds w i f × (id_of f ≡ x)) → Among x (id_of e ∷ ids w) → (i : ℕ) × (f : Entry) × Holds (e ∷ w) i f × (id_of f ≡ x)
    go b more (inl q) = (0, e, record { entry = refl; held = unfree_held e.phase b }, sym q)
    go b more (inr m) = later (more m)

at_ids : (w : List Entry) (i : ℕ) (e : Entry) → Holds w i e → Among (id_of e) (ids w)
unfolding ids
at_ids [] i e h = absurd (let z = held_unfree e.phase h.held in let y = ap (λ (f : Entry). is_free f.phase) h.entry in clash (y ∙ z))
at_ids (f ∷ w) zero e h = by_test (λ (l : List Id). Among (id_of e) l) (is_free f.phase) _ _ (λ b. clash (sym b ∙ (ap (λ (y : Entry). is_free y.phase) h.entry ∙ held_unfree e.phase h.held))) (λ b. inl (ap id_of (sym h.entry)))
at_ids (f ∷ w) (suc i) e h = by_test (λ (l : List Id). Among (id_of e) l) (is_free f.phase) _ _ (λ b. at_ids w i e (record { entry = h.entry; held = h.held })) (λ b. inr (at_ids w i e (record { entry = h.entry; held = h.held })))

ids_once : (w : List Entry) → Once w → Distinct (ids w)
unfolding ids
ids_once [] o = tt
ids_once (e ∷ w) o = by_test Distinct (is_free e.phase) _ _ (λ b. ids_once w rest) (λ b. (λ m. apart b (ids_at w (id_of e) m), ids_once w rest))
  where
    rest : Once w
    rest = (λ i j a c h k q. let z = o (suc i) (suc j) a c (record { entry = h.entry; held = h.held }) (record { entry = k.entry; held = k.held }) q in omega arith)

    apart : is_free e.phase ≡ false → (i : ℕ) × (f : Entry) × Holds w i f × (id_of f ≡ id_of e) → ⊥
    apart b r =
        let z = o 0 (suc r.0) e r.1 (record { entry = refl; held = unfree_held e.phase b }) (record { entry = r.2.entry; held = r.2.held }) (ap (λ (x : Id). x.position) (sym r.3), ap (λ (x : Id). x.node) (sym r.3)) in
        omega arith

standing : (w : List Entry) (x : Id) → Held (Holds w) x → Among x (ids w)
standing w x h = subst (λ (z : Id). Among z (ids w)) h.3 (at_ids w h.0 h.1 h.2)

-- a window of 512 places that holds what waits is not passed
pub room : (p : Plan) (log : Log) (us : List ℕ) (w : List Entry) → length w ≡ 512 → ((x : Id) → Unreported p log us x → Held (Holds w) x) → TooMany p log us → ⊥
room p log us w long held m =
    let f = fewer m.nodes (ids w) m.distinct (λ x k. standing w x (held x (m.wait x k))) in
    let u = ids_length w in
    let y = m.many in
    omega arith

-- ---- a path that brings es after us, into the window w

module _ (p : Plan) (log : Log) (us ws : List ℕ) (w es : List Entry) (long : length w ≡ 512) (once : Once w) (b : Brings p us ws es)
    (holds : (i : ℕ) (e : Entry) → Holds w i e → Unreported p log us (id_of e)) (held : (x : Id) → Unreported p log us x → Held (Holds w) x)
    (low : (x : Id) → Work (whole_of p us) x → x.position < length_of us) (new : (x : Id) → Reported log x → x.position < length_of us) where
  pub too_many : vacancies w < length es → TooMany p log ws
  too_many l = record {
    nodes = ids w ++ map id_of es;
    distinct = distinct_both (ids w) (map id_of es) (ids_once w once) b.once apart;
    wait = λ x m. ⊎_elim (λ k. old x k) (λ k. brought x k) (among_either x (ids w) (map id_of es) m);
    many = (let u = ids_length w in let v = length-append (ids w) (map id_of es) in let z = length-map es id_of in omega arith);
  }
    where
      apart : (x : Id) → Among x (ids w) → Among x (map id_of es) → ⊥
      apart x m n =
          let r = ids_at w x m in
          let d = map_among id_of x es n in
          let u = low (id_of r.1) (holds r.0 r.1 r.2).node in
          let v = (b.new d.0 d.1).1 in
          let z : id_of r.1 ≡ id_of d.0 = r.3 ∙ d.2 in
          let y = ap (λ (k : Id). k.position) z in
          omega arith

      old : (x : Id) → Among x (ids w) → Unreported p log ws x
      old x m = let r = ids_at w x m in let h = holds r.0 r.1 r.2 in subst (Unreported p log ws) r.3 record { node = b.grows (id_of r.1) h.node; unreported = h.unreported }

      brought : (x : Id) → Among x (map id_of es) → Unreported p log ws x
      brought x m =
          let d = map_among id_of x es m in
          let n = b.new d.0 d.1 in
          subst (Unreported p log ws) (sym d.2) record { node = n.0; unreported = λ r. let u = new (id_of d.0) r in let v = n.1 in omega arith }

  pub not_many : length es ≤ vacancies w → TooMany p log ws → ⊥
  not_many l m =
      let f = fewer m.nodes (ids w ++ map id_of es) m.distinct (λ x k. ⊎_elim (λ n. among_left x (ids w) (map id_of es) (standing w x (held x (record { node = n; unreported = (m.wait x k).unreported })))) (λ n. among_right x (ids w) (map id_of es) n) (b.all x (m.wait x k).node)) in
      let u = ids_length w in
      let v = length-append (ids w) (map id_of es) in
      let z = length-map es id_of in
      let y = m.many in
      omega arith
