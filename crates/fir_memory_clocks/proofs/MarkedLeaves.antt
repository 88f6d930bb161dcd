-- What marks say of roots, as walks pass leaves.
use Rattle.std.proofs.Common.{◌≡◌, ◌⊎◌, ℕ, suc, ◌+◌, ◌<◌, ◌≤◌, List, length, map, set, replicate, Option, Some, None, option_map, refl, sym, ap, ◌∙◌, subst, inl, inr, ⊎_elim, arith}
use Rattle.std.specs.Prelude.{slice_get}
use Rattle.std.proofs.lemmas.Bool.{cases_eq}
use Rattle.std.proofs.lemmas.List.{length-map, length-replicate, length-set}
use Rattle.std.proofs.lemmas.Option.{same_Some, slice_get-map, slice_get_within}
use Rattle.fir_base.proofs.Elements.{there}
use Rattle.fir_base.proofs.Writes.{get-replicate, write_cases, write_same}
use Rattle.fir_whens.specs.declared.net_role.NetRole.{NetRole}
use Rattle.fir_whens.specs.declared.net_role.NetRole.TheVariants as code
use Rattle.fir_memory_clocks.specs.declared.clock_roots.Mark.{Mark}
use Rattle.fir_memory_clocks.specs.declared.clock_roots.Mark.TheVariants as mark
use Rattle.fir_memory_clocks.specs.declared.clock_roots.Step.{Step}
use Rattle.fir_memory_clocks.specs.declared.clock_roots.Step.TheVariants as step
use Rattle.fir_memory_clocks.specs.working.Marks.{AreMarkedBefore, AreMarks, AreSettled, IsMarked, IsOnWay, IsStep, IsWalk, KeepMarks, Leads, root_of}
use Rattle.fir_memory_clocks.specs.working.RoleRoots.{AreRoots, HasRoot, given, next_at, outside}
use Rattle.fir_memory_clocks.proofs.RoleWalks.{leads_root, next_on_way, no_long, no_ring, one_leads, one_root, root_back, root_within}

-- ---- one mark is written

module _ (marks : List Mark) (x : ℕ) (within : x < length marks) (m : Mark) (some : m ≡ mark.New → ⊥) where
  pub keeps_set : KeepMarks marks (set marks x m)
  keeps_set y e =
      ⊎_elim (λ (h : (y ≡ x) × (m ≡ mark.New)). absurd (some h.1)) (λ (h : (y ≡ x → ⊥) × (slice_get marks y ≡ Some mark.New)). h.1)
      (write_cases marks x m y mark.New within e)

  pub marked_set : IsMarked (set marks x m) x
  marked_set e = some (same_Some m mark.New (sym (write_same marks x m within) ∙ e))

module _ (roles : List NetRole) where
  pub weaker : (K L : ℕ → Type 0) (marks : List Mark) → ((x root : ℕ) → HasRoot roles x root → K x → L x) → AreMarks roles K marks → AreMarks roles L marks
  weaker K L marks f h = record { count = h.count; ends = h.ends; passed = λ x root e r. f x root r (h.passed x root e r) }

  module _ (K : ℕ → Type 0) (marks : List Mark) (h : AreMarks roles K marks) (x : ℕ) (within : x < length marks) where
    set_passed : AreMarks roles (λ z. K z ⊎ (z ≡ x)) (set marks x mark.Passed)
    set_passed = record {
      count = length-set marks x mark.Passed ∙ h.count;
      ends = λ y root e.
          ⊎_elim (λ (o : (y ≡ x) × (mark.Passed ≡ mark.Ends root)). let never = o.1 in absurd (cc))
          (λ (o : (y ≡ x → ⊥) × (slice_get marks y ≡ Some (mark.Ends root))). h.ends y root o.1)
          (write_cases marks x mark.Passed y (mark.Ends root) within e);
      passed = λ y root e r.
          ⊎_elim (λ (o : (y ≡ x) × (mark.Passed ≡ mark.Passed)). inr o.0)
          (λ (o : (y ≡ x → ⊥) × (slice_get marks y ≡ Some mark.Passed)). inl (h.passed y root o.1 r))
          (write_cases marks x mark.Passed y mark.Passed within e);
    }

    set_nowhere : ((root : ℕ) → HasRoot roles x root → ⊥) → AreMarks roles K (set marks x mark.Passed)
    set_nowhere none =
        weaker (λ z. K z ⊎ (z ≡ x)) K (set marks x mark.Passed)
        (λ z root r o. ⊎_elim (λ (k : K z). k) (λ (e : z ≡ x). absurd (none root (subst (λ y. HasRoot roles y root) e r))) o) set_passed

    set_ends : (L : ℕ → Type 0) (root : ℕ) → HasRoot roles x root → ((z : ℕ) → (z ≡ x → ⊥) → K z → L z) → AreMarks roles L (set marks x (mark.Ends root))
    set_ends L root r f = record {
      count = length-set marks x (mark.Ends root) ∙ h.count;
      ends = λ y other e.
          ⊎_elim
          (λ (o : (y ≡ x) × (mark.Ends root ≡ mark.Ends other)).
          let same = o.1 in
          let one : root ≡ other = cc in
          subst (λ z. HasRoot roles z other) (sym o.0) (subst (HasRoot roles x) one r))
          (λ (o : (y ≡ x → ⊥) × (slice_get marks y ≡ Some (mark.Ends other))). h.ends y other o.1)
          (write_cases marks x (mark.Ends root) y (mark.Ends other) within e);
      passed = λ y other e q.
          ⊎_elim (λ (o : (y ≡ x) × (mark.Ends root ≡ mark.Passed)). let never = o.1 in absurd (cc))
          (λ (o : (y ≡ x → ⊥) × (slice_get marks y ≡ Some mark.Passed)). f y o.0 (h.passed y other o.1 q))
          (write_cases marks x (mark.Ends root) y mark.Passed within e);
    }

    -- ---- what a step does at a leaf of which nothing is known

    pub new_outside : slice_get roles x ≡ Some code.Source → IsStep roles K x marks (set marks x (mark.Ends x)) (step.Root x)
    new_outside e = record {
      keeps = keeps_set marks x within (mark.Ends x) (λ f. cc);
      marked = marked_set marks x within (mark.Ends x) (λ f. cc);
      tells = (outside x e, set_ends K x (outside x e) (λ z other k. k));
    }

    pub new_on : (y : ℕ) → next_at roles x ≡ Some y → IsStep roles K x marks (set marks x mark.Passed) (step.On y)
    new_on y e = record {
      keeps = keeps_set marks x within mark.Passed (λ f. cc);
      marked = marked_set marks x within mark.Passed (λ f. cc);
      tells = (e, set_passed);
    }

    pub new_nowhere : (slice_get roles x ≡ Some code.Source → ⊥) → next_at roles x ≡ None
        → IsStep roles K x marks (set marks x mark.Passed) step.Nowhere
    new_nowhere inside e = record {
      keeps = keeps_set marks x within mark.Passed (λ f. cc);
      marked = marked_set marks x within mark.Passed (λ f. cc);
      tells = ((λ root r. absurd (none root r)), set_nowhere none);
    }
      where
        ends : (z root : ℕ) → HasRoot roles z root → z ≡ x → ⊥
        ends _ _ (outside z out) same = inside (ap (slice_get roles) (sym same) ∙ out)
        ends _ _ (given z y root next r) same =
            let never : Some y ≡ None = sym next ∙ ap (next_at roles) same ∙ e in
            cc

        none : (root : ℕ) → HasRoot roles x root → ⊥
        none root r = ends x root r refl

  -- ---- and at others

  module _ (K : ℕ → Type 0) (marks : List Mark) (h : AreMarks roles K marks) (x : ℕ) where
    pub past_all : length marks ≤ x → IsStep roles K x marks marks step.Nowhere
    past_all le = record {
      keeps = λ y e. e;
      marked = λ e. let lt = slice_get_within marks x mark.New e in omega (arith, le, lt);
      tells = ((λ root r. let lt = root_within roles x root r in absurd (omega (arith, le, lt, h.count))), h);
    }

    pub at_passed : slice_get marks x ≡ Some mark.Passed → IsStep roles K x marks marks step.Nowhere
    at_passed at = record {
      keeps = λ y e. e;
      marked = λ e. let same : Some mark.Passed ≡ Some mark.New = sym at ∙ e in cc;
      tells = ((λ root r. h.passed x root at r), h);
    }

    pub at_end : (root : ℕ) → slice_get marks x ≡ Some (mark.Ends root) → IsStep roles K x marks marks (step.Root root)
    at_end root at = record {
      keeps = λ y e. e;
      marked = λ e. let same : Some (mark.Ends root) ≡ Some mark.New = sym at ∙ e in cc;
      tells = (h.ends x root at, h);
    }

  -- ---- a walk from a leaf

  module _ (leaf : ℕ) (old : List Mark) where
    -- so many steps have been taken
    pub record IsUnderWay (marks : List Mark) (steps at : ℕ) : Type 0 where
      pub leads : Leads roles leaf steps at
      pub marks_are : AreMarks roles (IsOnWay roles leaf 0 steps) marks
      pub keeps : KeepMarks old marks
      pub marked : 0 < steps → IsMarked marks leaf

    pub none_taken : AreSettled roles old → IsUnderWay old 0 leaf
    none_taken h = record {
      leads = refl;
      marks_are = weaker (λ x. ⊥) (IsOnWay roles leaf 0 0) old (λ x root r none. absurd none) h;
      keeps = λ x e. e;
      marked = λ lt. absurd (omega (arith, lt));
    }

    module _ (marks : List Mark) (steps at : ℕ) (u : IsUnderWay marks steps at) (new : List Mark) where
      module _ (s : Step) (made : IsStep roles (IsOnWay roles leaf 0 steps) at marks new s) where
        pub keeps_on : KeepMarks old new
        keeps_on x e = u.keeps x (made.keeps x e)

        -- the leaf is marked by the first step
        pub marked_on : IsMarked new leaf
        marked_on e = by (cases_eq steps 0)
          where
            by : (steps ≡ 0) ⊎ (steps ≡ 0 → ⊥) → ⊥
            by (inl none) =
                let same : at ≡ leaf = one_leads roles leaf 0 at leaf (subst (λ n. Leads roles leaf n at) none u.leads) refl in
                made.marked (ap (slice_get new) same ∙ e)
            by (inr some) = u.marked (omega (arith, some)) (made.keeps leaf e)

      pub one_more : (y : ℕ) → IsStep roles (IsOnWay roles leaf 0 steps) at marks new (step.On y) → IsUnderWay new (steps + 1) y
      one_more y made =
          let next : suc steps ≡ steps + 1 = omega arith in
          record {
            leads = subst (λ n. Leads roles leaf n y) next (at, u.leads, made.tells.0);
            marks_are =
                weaker (λ z. IsOnWay roles leaf 0 steps z ⊎ (z ≡ at)) (IsOnWay roles leaf 0 (steps + 1)) new
                (λ z root r o.
                ⊎_elim (λ (w : IsOnWay roles leaf 0 steps z). let lt = w.2 in (w.0, w.1, omega (arith, lt), w.3))
                (λ (e : z ≡ at). (steps, omega arith, omega arith, subst (Leads roles leaf steps) (sym e) u.leads)) o) made.tells.1;
            keeps = keeps_on (step.On y) made;
            marked = λ lt. marked_on (step.On y) made;
          }

      pub comes_to : (root : ℕ) → IsStep roles (IsOnWay roles leaf 0 steps) at marks new (step.Root root)
          → IsWalk roles leaf new (Some (record { steps = steps; root = root }))
      comes_to root made = record { root = leads_root roles leaf steps at root u.leads made.tells.0; marks_are = made.tells.1 }

      pub ends_nowhere : IsStep roles (IsOnWay roles leaf 0 steps) at marks new step.Nowhere → AreSettled roles new
      ends_nowhere made =
          weaker (IsOnWay roles leaf 0 steps) (λ x. ⊥) new (λ x root r w. rootless root (leads_root roles leaf w.0 x root w.3 r)) made.tells.1
        where
          rootless : (root : ℕ) → HasRoot roles leaf root → ⊥
          rootless root r =
              let w = made.tells.0 root (root_back roles leaf steps at root u.leads r) in
              no_ring roles leaf w.0 steps at root w.3 u.leads w.2 r

    pub goes_round : (marks : List Mark) (steps at : ℕ) → IsUnderWay marks steps at → length roles ≤ steps → AreSettled roles marks
    goes_round marks steps at u le =
        weaker (IsOnWay roles leaf 0 steps) (λ x. ⊥) marks
        (λ x root r w. no_long roles leaf steps at root u.leads le (leads_root roles leaf w.0 x root w.3 r)) u.marks_are

    pub marked_round : (marks : List Mark) (steps at : ℕ) → IsUnderWay marks steps at → length roles ≤ steps → leaf < length roles → IsMarked marks leaf
    marked_round marks steps at u le lt = u.marked (omega (arith, le, lt))

    -- ---- and the walk again, with the root

    pub record IsSettling (steps : ℕ) (marks : List Mark) (i at : ℕ) : Type 0 where
      pub leads : Leads roles leaf i at
      pub marks_are : AreMarks roles (IsOnWay roles leaf i steps) marks
      pub keeps : KeepMarks old marks

    pub none_settled : (steps : ℕ) → AreMarks roles (IsOnWay roles leaf 0 steps) old → IsSettling steps old 0 leaf
    none_settled steps h = record { leads = refl; marks_are = h; keeps = λ x e. e }

    module _ (steps root : ℕ) (has : HasRoot roles leaf root) where
      module _ (marks : List Mark) (i at : ℕ) (u : IsSettling steps marks i at) where
        own : HasRoot roles at root
        own = root_back roles leaf i at root u.leads has

        there_is : at < length marks
        there_is = let lt = root_within roles at root own in omega (arith, lt, u.marks_are.count)

        settled_keeps : KeepMarks old (set marks at (mark.Ends root))
        settled_keeps x e = u.keeps x (keeps_set marks at there_is (mark.Ends root) (λ f. cc) x e)

        later : (z : ℕ) → (z ≡ at → ⊥) → IsOnWay roles leaf i steps z → (n : ℕ) × (i < n) × (n < steps) × Leads roles leaf n z
        later z other w = by (cases_eq w.0 i)
          where
            by : (w.0 ≡ i) ⊎ (w.0 ≡ i → ⊥) → (n : ℕ) × (i < n) × (n < steps) × Leads roles leaf n z
            by (inl e) = absurd (other (one_leads roles leaf i z at (subst (λ n. Leads roles leaf n z) e w.3) u.leads))
            by (inr more) = let le = w.1 in (w.0, omega (arith, le, more), w.2, w.3)

        pub one_settled : (y : ℕ) → next_at roles at ≡ Some y → IsSettling steps (set marks at (mark.Ends root)) (i + 1) y
        one_settled y e =
            let next : suc i ≡ i + 1 = omega arith in
            record {
              leads = subst (λ n. Leads roles leaf n y) next (at, u.leads, e);
              marks_are =
                  set_ends (IsOnWay roles leaf i steps) marks u.marks_are at there_is (IsOnWay roles leaf (i + 1) steps) root own
                  (λ z other w. let n = later z other w in let lt = n.1 in (n.0, omega (arith, lt), n.2, n.3));
              keeps = settled_keeps;
            }

        pub stops : next_at roles at ≡ None → AreSettled roles (set marks at (mark.Ends root))
        stops e =
            set_ends (IsOnWay roles leaf i steps) marks u.marks_are at there_is (λ x. ⊥) root own
            (λ z other w.
            let n = later z other w in
            let next = next_on_way roles leaf n.0 z n.3 i n.1 at u.leads in
            let never : Some next.0 ≡ None = sym next.1 ∙ e in
            cc)

        pub stops_keeps : KeepMarks old (set marks at (mark.Ends root))
        stops_keeps = settled_keeps

        pub all_settled : steps ≤ i → AreSettled roles marks
        all_settled le =
            weaker (IsOnWay roles leaf i steps) (λ x. ⊥) marks (λ x r h w. let low = w.1 in let lt = w.2 in omega (arith, le, low, lt)) u.marks_are

  -- ---- all leaves

  pub new_settled : AreSettled roles (replicate (length roles) mark.New)
  new_settled = record {
    count = length-replicate (length roles) mark.New;
    ends = λ x root e. let same = is_new x (mark.Ends root) e in absurd (cc);
    passed = λ x root e r. let same = is_new x mark.Passed e in cc;
  }
    where
      is_new : (x : ℕ) (m : Mark) → slice_get (replicate (length roles) mark.New) x ≡ Some m → mark.New ≡ m
      is_new x m e =
          let lt = slice_get_within (replicate (length roles) mark.New) x m e in
          let short : x < length roles = omega (arith, lt, length-replicate (length roles) mark.New) in
          same_Some mark.New m (sym (get-replicate (length roles) x mark.New short) ∙ e)

  pub none_before : (marks : List Mark) → AreMarkedBefore 0 marks
  none_before marks x lt = absurd (omega (arith, lt))

  pub marked_more : (n : ℕ) (old new : List Mark) → AreMarkedBefore n old → KeepMarks old new → IsMarked new n → AreMarkedBefore (n + 1) new
  marked_more n old new h keeps marked x lt e = by (cases_eq x n)
    where
      by : (x ≡ n) ⊎ (x ≡ n → ⊥) → ⊥
      by (inl same) = marked (ap (slice_get new) (sym same) ∙ e)
      by (inr other) = h x (omega (arith, lt, other)) (keeps x e)

  pub roots_are : (marks : List Mark) (n : ℕ) → length roles ≤ n → AreSettled roles marks → AreMarkedBefore n marks → AreRoots roles (map root_of marks)
  roots_are marks n le h before = record {
    count = length-map marks root_of ∙ h.count;
    each = λ x root. (forth x root, back x root);
  }
    where
      rooted : (o : Option Mark) (root : ℕ) → option_map root_of o ≡ Some (Some root) → o ≡ Some (mark.Ends root)
      rooted None root e = absurd (cc)
      rooted (Some mark.New) root e = absurd (cc)
      rooted (Some mark.Passed) root e = absurd (cc)
      rooted (Some (mark.Ends other)) root e = let inner : Some other ≡ Some root = cc in ap (λ r. Some (mark.Ends r)) (same_Some other root inner)

      forth : (x root : ℕ) → slice_get (map root_of marks) x ≡ Some (Some root) → HasRoot roles x root
      forth x root e = h.ends x root (rooted (slice_get marks x) root (sym (slice_get-map root_of marks x) ∙ e))

      by_mark : (x root : ℕ) (m : Mark) → slice_get marks x ≡ Some m → HasRoot roles x root → root_of m ≡ Some root
      by_mark x root mark.New e r = let lt = root_within roles x root r in absurd (before x (omega (arith, lt, le)) e)
      by_mark x root mark.Passed e r = absurd (h.passed x root e r)
      by_mark x root (mark.Ends other) e r = ap Some (one_root roles x other root (h.ends x other e) r)

      back : (x root : ℕ) → HasRoot roles x root → slice_get (map root_of marks) x ≡ Some (Some root)
      back x root r =
          let lt = root_within roles x root r in
          let m = there marks x (omega (arith, lt, h.count)) in
          slice_get-map root_of marks x ∙ ap (option_map root_of) m.1 ∙ ap Some (by_mark x root m.0 m.1 r)
