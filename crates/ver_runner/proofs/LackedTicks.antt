-- At a tick at which an item lacks a value where all is at rest, a tree allows nothing.
use Rattle.std.proofs.Common.{◌≡◌, ℕ, ◌+◌, List, [], ◌∷◌, ◌++◌, Bool, true, false, Option, Some, None, inl, inr, refl, sym, ap, ◌∙◌, ⊎_elim, subst, ◌⊎◌}
use Rattle.std.specs.Prelude.{◌&&◌, ◌||◌, not, if◌then◌else◌, is_none, flat_map, filter, IsSome}
use Rattle.std.specs.List.{list_all, list_any}
use Rattle.fir_base.specs.Lists.{In}
use Rattle.fir_base.specs.Ticks.{Env, Tick}
use Rattle.fir_base.proofs.Members.{in_flat_map}
use Rattle.ver_ast.specs.declared.tree.Verilog.{Verilog}
use Rattle.ver_ast.specs.declared.tree.Assign.{Assign}
use Rattle.ver_ast.specs.declared.tree.Item.{Item}
use Rattle.ver_ast.specs.Allows.{VAllows}
use Rattle.ver_ast.specs.Nets.{AlwaysBlock, assigns, blocks, clocks, item_assign, item_block, nets, output_clocks, variables}
use Rattle.ver_ast.specs.Next.{Put, acting, acts, all_puts, is_within, puts, state_after, v_next}
use Rattle.ver_ast.specs.Processes.{assigning, wanted}
use Rattle.ver_ast.specs.Settled.{Rest, VSettled}
use Rattle.ver_ast.specs.Stores.{Store, store_of}
use Rattle.ver_ast.specs.Valid.{Valid}
use Rattle.ver_ast.proofs.OneRest.{same_clocks, same_nets}
use Rattle.ver_ast.proofs.Processes.{is_process}
use Rattle.ver_order.proofs.Shown.{settled_where_one_is}
use Rattle.ver_sim.specs.Lacking.{first_from, item_lacks}
use Rattle.ver_runner.proofs.SameWrites.{same_next}

-- an item that is found by a test is one of the list, and the test holds of it
found_item : (test : Item → Bool) (k : ℕ) (is : List Item) (item : ℕ) → first_from test k is ≡ Some item → (i : Item) × In is i × (test i ≡ true)
found_item test k [] item e = absurd (cc)
found_item test k (i ∷ is) item e = by (test i) refl (found_item test (k + 1) is item)
  where
    by : (b : Bool) → test i ≡ b → (first_from test (k + 1) is ≡ Some item → (j : Item) × In is j × (test j ≡ true))
        → (j : Item) × In (i ∷ is) j × (test j ≡ true)
    by true h later = (i, inl refl, h)
    by false h later = let t = later (rw h at e) in (t.0, inr t.1, t.2)

-- some element passes a test
some_passes : {A : Type 0} → (test : A → Bool) (xs : List A) → list_any test xs ≡ true → (x : A) × In xs x × (test x ≡ true)
some_passes test [] e = absurd (cc)
some_passes {A} test (x ∷ xs) e = by (test x) refl (some_passes test xs)
  where
    by : (b : Bool) → test x ≡ b → (list_any test xs ≡ true → (y : A) × In xs y × (test y ≡ true)) → (y : A) × In (x ∷ xs) y × (test y ≡ true)
    by true h later = (x, inl refl, h)
    by false h later = let t = later (rw h at e) in (t.0, inr t.1, t.2)

either_true : (a b : Bool) → a || b ≡ true → (a ≡ true) ⊎ (b ≡ true)
either_true true b e = inl refl
either_true false b e = inr e

both_true : (a b : Bool) → a && b ≡ true → (a ≡ true) × (b ≡ true)
both_true true b e = (refl, e)
both_true false b e = absurd (cc)

none_is_none : (o : Option ℕ) → is_none o ≡ true → IsSome o → ⊥
none_is_none None e s = absurd (cc)
none_is_none (Some x) e s = cc

-- what all pass, each part passes
part_passes : {A B : Type 0} → (test : B → Bool) (f : A → List B) (xs : List A) → list_all test (flat_map f xs) ≡ true → (x : A) → In xs x → list_all test (f x) ≡ true
part_passes test f [] e x m = absurd m
part_passes {A} {B} test f (y ∷ ys) e x m =
    let both = split (f y) (flat_map f ys) e in
    ⊎_elim
    (λ (p : y ≡ x). subst (λ (z : A). list_all test (f z) ≡ true) p both.0)
    (λ (i : In ys x). part_passes test f ys both.1 x i)
    m
  where
    split : (us bs : List B) → list_all test (us ++ bs) ≡ true → (list_all test us ≡ true) × (list_all test bs ≡ true)
    split [] bs e = (refl, e)
    split (a ∷ us) bs e =
        let here = both_true (test a) (list_all test (us ++ bs)) e in
        let rest = split us bs here.1 in
        (rw here.0 rest.0, rest.1)

kept : {A : Type 0} → (test : A → Bool) (xs : List A) (x : A) → In xs x → test x ≡ true → In (filter test xs) x
kept test [] x m e = absurd m
kept {A} test (y ∷ ys) x m e = by (test y) refl m (λ i. kept test ys x i e)
  where
    by : (b : Bool) → test y ≡ b → In (y ∷ ys) x → (In ys x → In (filter test ys) x) → In (if b then y ∷ filter test ys else filter test ys) x
    by true h (inl p) later = inl p
    by true h (inr i) later = inr (later i)
    by false h (inl p) later = absurd (let no : test x ≡ false = subst (λ (z : A). test z ≡ false) p h in cc)
    by false h (inr i) later = later i

next_within : (v : Verilog) (state : List ℕ) (tick : Tick) (env : Env) (next : List ℕ) → v_next v state tick env ≡ Some next
    → list_all (is_within (store_of (variables v) state)) (all_puts v tick env) ≡ true
next_within v state tick env next e = by (list_all (is_within (store_of (variables v) state)) (all_puts v tick env)) refl
  where
    by : (b : Bool) → list_all (is_within (store_of (variables v) state)) (all_puts v tick env) ≡ b → b ≡ true
    by true h = refl
    by false h = absurd (let none : ◌≡◌ {A = Option (List ℕ)} None (Some next) = rw h at e in cc)

module _ (v : Verilog) (valid : Valid v) (state : List ℕ) (tick : Tick) (env : Env) (rest : Rest v state tick env) where
  abbrev store : Store
  store = store_of (variables v) state

  -- where all is settled and a next state follows, no item lacks a value
  none_lacks : VSettled v state tick env → (next : List ℕ) → v_next v state tick env ≡ Some next → (i : Item) → In v.items i
      → item_lacks v store tick.clocks env i ≡ true → ⊥
  none_lacks settled next e i m lacks =
      ⊎_elim
      (λ (h : list_any (λ (a : Assign). is_none (wanted v store env (assigning a))) (item_assign (output_clocks v) i) ≡ true).
      let t = some_passes (λ (a : Assign). is_none (wanted v store env (assigning a))) (item_assign (output_clocks v) i) h in
      none_is_none (wanted v store env (assigning t.0)) t.2
      (settled.values (assigning t.0) (is_process v t.0 (in_flat_map (item_assign (output_clocks v)) v.items i t.0 m t.1))))
      (λ (h : list_any (λ (b : AlwaysBlock). acts tick.clocks env b && not (list_all (is_within store) (puts (nets v) env b))) (item_block i) ≡ true).
      let t = some_passes (λ (b : AlwaysBlock). acts tick.clocks env b && not (list_all (is_within store) (puts (nets v) env b))) (item_block i) h in
      let both = both_true (acts tick.clocks env t.0) (not (list_all (is_within store) (puts (nets v) env t.0))) t.2 in
      let acting_block : In (acting v tick env) t.0 = kept (acts tick.clocks env) (blocks v) t.0 (in_flat_map item_block v.items i t.0 m t.1) both.0 in
      let within : list_all (is_within store) (puts (nets v) env t.0) ≡ true =
      part_passes (is_within store) (puts (nets v) env) (acting v tick env) (next_within v state tick env next e) t.0 acting_block in
      let no : not (list_all (is_within store) (puts (nets v) env t.0)) ≡ true = both.1 in
      cc)
      (either_true _ _ lacks)

  pub lacks_allow_nothing : (item : ℕ) → first_from (item_lacks v store tick.clocks env) 0 v.items ≡ Some item
      → (shown : List ℕ) (clocks_shown : List (Option ℕ)) (next : List ℕ) → VAllows v state tick shown clocks_shown next → ⊥
  lacks_allow_nothing item first shown clocks_shown next allows =
      let other : Env = allows.0 in
      let settled : VSettled v state tick other = allows.1 in
      let mine : VSettled v state tick env = settled_where_one_is v valid state tick other env settled rest in
      let same : v_next v state tick env ≡ v_next v state tick other =
      same_next v valid env other
      (same_nets v valid state tick env other rest.begins settled.rest.begins (λ q i. (rest.shows q i, settled.rest.shows q i)))
      (same_clocks v valid state tick env other rest.begins settled.rest.begins) state tick in
      let found = found_item (item_lacks v store tick.clocks env) 0 v.items item first in
      none_lacks mine next (same ∙ allows.4) found.0 found.1 found.2
