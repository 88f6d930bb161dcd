-- What statements leave at a leaf, by how many of them are live for it: what stood before, what the one gives, or a choice.
use Rattle.std.proofs.Common.{◌≡◌, ℕ, ◌+◌, ◌≤◌, List, [], ◌∷◌, ◌++◌, map, length, length-append, Bool, true, false, ◌&&◌, ◌||◌, nat_eq, nat_lt, if◌then◌else◌, refl, sym, ap, ◌∙◌, subst, inl, inr, arith, append-nil}
use Rattle.std.proofs.lemmas.Bool.{and_parts, eqb-true}
use Rattle.std.proofs.lemmas.List.{length-map}
use Rattle.fir_base.specs.Lists.{In}
use Rattle.fir_ast.specs.declared.place.Place.{Place}
use Rattle.fir_meaning.specs.LeafTypes.{LeafType}
use Rattle.fir_meaning.specs.working.Terms.{Picks, Term, no_picks, pick}
use Rattle.fir_meaning.specs.working.TermReads.{is_among, reached}
use Rattle.fir_meaning.specs.working.TermValues.{Holds}
use Rattle.fir_meaning.specs.working.LeafBlocks.{LeafBlock, LeafStatement, done, drive, instance, then, when}
use Rattle.fir_meaning.specs.working.Choices.{Live, below, covers, covers_all, driving, lives, lives_all, unless}
use Rattle.fir_meaning.specs.working.UndrivenChoices.{drives_any}
use Rattle.fir_leaf_types.specs.working.TypedBlocks.{AreTyped, IsTyped, MayGive}
use Rattle.fir_connect.specs.working.Drivers.{driver, driver_all, given, through}
use Rattle.fir_connect.specs.working.Lowered.{Candidate, candidates, conditions, lowered}
use Rattle.fir_connect.specs.working.LoweredLaws.{types_of}
use Rattle.fir_connect.specs.working.NetTerms.{NetTerm, choice}
use Rattle.fir_connect.proofs.AmongReached.{in_among, not_among}
use Rattle.fir_connect.proofs.DriverLives.{SomeLive, none_in, some_in}
use Rattle.fir_connect.proofs.LoweredCandidates.{CandidateOf, as_many, candidate_of, conditions_are_some, number_in}
use Rattle.fir_flatten.specs.working.ClearClocks.{IsChosen}

-- through candidates none of which is the leaf's
through_same : (holds : Holds) (depth x : ℕ) (e : NetTerm) (cs : List Candidate) (old : NetTerm) → ((c : Candidate) → In cs c → c.number ≡ x → ⊥)
    → through holds depth x cs e old ≡ old
through_same holds depth x e [] old others = refl
through_same holds depth x e (c ∷ cs) old others = by (nat_eq c.number x) refl (through_same holds depth x e cs old (λ d m. others d (inr m)))
  where
    by : (b : Bool) → nat_eq c.number x ≡ b → through holds depth x cs e old ≡ old
        → through holds depth x cs e (if b then choice holds c.condition e old else old) ≡ old
    by true q rest = absurd (others c (inl refl) (eqb-true c.number x q))
    by false q rest = rest

-- what stands is a choice, or becomes one
through_chosen : (holds : Holds) (depth x : ℕ) (e : NetTerm) (cs : List Candidate) (old : NetTerm) → IsChosen old → IsChosen (through holds depth x cs e old)
through_chosen holds depth x e [] old is = is
through_chosen holds depth x e (c ∷ cs) old is =
    through_chosen holds depth x e cs (if nat_eq c.number x then choice holds c.condition e old else old) (by (nat_eq c.number x))
  where
    by : (b : Bool) → IsChosen (if b then choice holds c.condition e old else old)
    by true = tt
    by false = is

through_chooses : (holds : Holds) (depth x : ℕ) (e : NetTerm) (cs : List Candidate) (old : NetTerm) (c : Candidate) → In cs c → c.number ≡ x
    → IsChosen (through holds depth x cs e old)
through_chooses holds depth x e [] old c m is = absurd m
through_chooses holds depth x e (d ∷ cs) old c (inr m) is = through_chooses holds depth x e cs (if nat_eq d.number x then choice holds d.condition e old else old) c m is
through_chooses holds depth x e (d ∷ cs) old c (inl q) is =
    through_chosen holds depth x e cs (if nat_eq d.number x then choice holds d.condition e old else old) (by (nat_eq d.number x) refl)
  where
    same : d.number ≡ x
    same = ap (λ (z : Candidate). z.number) q ∙ is

    by : (b : Bool) → nat_eq d.number x ≡ b → IsChosen (if b then choice holds d.condition e old else old)
    by true f = tt
    by false f = absurd (grind arith)

some_long : (ls : List Live) → SomeLive ls → 1 ≤ length ls
some_long [] l = absurd l.among
some_long (l ∷ ls) m = omega arith

module _ (held : ℕ → LeafType) (x : ℕ) where
  -- none is live
  pub record IsUntouched (ls : List Live) (covered : Bool) (leaves : NetTerm → NetTerm) : Type 0 where
    pub none : ls ≡ []
    pub uncovered : covered ≡ false
    pub same : (old : NetTerm) → leaves old ≡ old

  -- one is live, under every choice
  pub record IsGiven (ls : List Live) (covered : Bool) (leaves : NetTerm → NetTerm) : Type 0 where
    pub live : Live
    pub only : ls ≡ live ∷ []
    pub is_covered : covered ≡ true
    pub direct : live.through ≡ no_picks
    pub may : MayGive held live.given (held x)
    pub gives : (old : NetTerm) → leaves old ≡ given (types_of held) x live.given

  -- some are live, of which none or two under every choice
  pub record IsSeveral (ls : List Live) (covered : Bool) (leaves : NetTerm → NetTerm) : Type 0 where
    pub some : 1 ≤ length ls
    pub two : covered ≡ true → 2 ≤ length ls
    pub chooses : (old : NetTerm) → IsChosen (leaves old)

  pub data Shape (ls : List Live) (covered : Bool) (leaves : NetTerm → NetTerm) : Type 0 where
    untouched : IsUntouched ls covered leaves → Shape ls covered leaves
    one_given : IsGiven ls covered leaves → Shape ls covered leaves
    several : IsSeveral ls covered leaves → Shape ls covered leaves

  -- where they cover the leaf, some are live
  covered_some : (ls : List Live) (covered : Bool) (leaves : NetTerm → NetTerm) → Shape ls covered leaves → covered ≡ true → 1 ≤ length ls
  covered_some ls covered leaves (untouched u) e = let f = u.uncovered in absurd cc
  covered_some ls covered leaves (one_given u) e = let only = u.only in rw only (omega arith)
  covered_some ls covered leaves (several u) e = u.some

  -- one behind the other
  shape_then : (ls ms : List Live) (earlier later : Bool) (first second : NetTerm → NetTerm) → Shape ls earlier first → Shape ms later second
      → Shape (unless later ls ++ ms) (later || earlier) (λ old. second (first old))
  shape_then ls ms earlier later first second (untouched u) (untouched v) =
      let uncovered = v.uncovered in
      let none = v.none in
      let none_first = u.none in
      untouched (record {
        none = rw (uncovered, none, none_first) refl;
        uncovered = rw uncovered u.uncovered;
        same = λ old. v.same (first old) ∙ u.same old;
      })
  shape_then ls ms earlier later first second (one_given u) (untouched v) =
      let uncovered = v.uncovered in
      let none = v.none in
      let only = u.only in
      one_given (record {
        live = u.live;
        only = rw (uncovered, none, only) refl;
        is_covered = rw uncovered u.is_covered;
        direct = u.direct;
        may = u.may;
        gives = λ old. v.same (first old) ∙ u.gives old;
      })
  shape_then ls ms earlier later first second (several u) (untouched v) =
      let uncovered = v.uncovered in
      let none = v.none in
      let long : length (ls ++ []) ≡ length ls = ap length (append-nil ls) in
      several (record {
        some = rw (uncovered, none, long) u.some;
        two = rw (uncovered, none, long) u.two;
        chooses = λ old. subst IsChosen (sym (v.same (first old))) (u.chooses old);
      })
  shape_then ls ms earlier later first second u (one_given v) =
      let is_covered = v.is_covered in
      one_given (record {
        live = v.live;
        only = rw is_covered v.only;
        is_covered = rw is_covered refl;
        direct = v.direct;
        may = v.may;
        gives = λ old. v.gives (first old);
      })
  shape_then ls ms earlier true first second u (several v) =
      several (record { some = v.some; two = λ e. v.two refl; chooses = λ old. v.chooses (first old) })
  shape_then ls ms earlier false first second u (several v) =
      several (record {
        some = omega (arith, length-append ls ms, v.some);
        two = λ e. let own = covered_some ls earlier first u e in omega (arith, length-append ls ms, v.some, own);
        chooses = λ old. v.chooses (first old);
      })

  -- in a when that does not stand round the leaf's declaration
  shape_within : (c : Term) (cond : NetTerm) (drives : Bool) (ls ms : List Live) (ca cb : Bool) (first second : NetTerm → NetTerm)
      → (drives ≡ true → SomeLive (ls ++ ms)) → (drives ≡ false → (ls ≡ []) × (ms ≡ []) × (ca ≡ false)) → Shape ls ca first → Shape ms cb second
      → Shape (map (below c) (ls ++ ms)) (ca && cb) (λ old. if drives then choice (types_of held) cond (first old) (second old) else old)
  shape_within c cond true ls ms ca cb first second some none u v =
      let long : length (map (below c) (ls ++ ms)) ≡ length ls + length ms = length-map (ls ++ ms) (below c) ∙ length-append ls ms in
      several (record {
        some = omega (arith, long, length-append ls ms, some_long (ls ++ ms) (some refl));
        two = λ e.
            let both = and_parts ca cb e in
            omega (arith, long, covered_some ls ca first u both.0, covered_some ms cb second v both.1);
        chooses = λ old. tt;
      })
  shape_within c cond false ls ms ca cb first second some none u v =
      let nowhere = none refl in
      let none_first = nowhere.0 in
      let none_second = nowhere.1 in
      let uncovered = nowhere.2 in
      untouched (record { none = rw (none_first, none_second) refl; uncovered = rw uncovered refl; same = λ old. refl })

  shape_when : (early : Bool) (c : Term) (cond : NetTerm) (drives : Bool) (ls ms : List Live) (ca cb : Bool) (first second : NetTerm → NetTerm)
      → (drives ≡ true → SomeLive (ls ++ ms)) → (drives ≡ false → (ls ≡ []) × (ms ≡ []) × (ca ≡ false)) → Shape ls ca first → Shape ms cb second
      → Shape (if early then unless cb ls ++ ms else map (below c) (ls ++ ms)) (if early then cb || ca else ca && cb)
      (λ old. if early then second (first old) else if drives then choice (types_of held) cond (first old) (second old) else old)
  shape_when true c cond drives ls ms ca cb first second some none u v = shape_then ls ms ca cb first second u v
  shape_when false c cond drives ls ms ca cb first second some none u v = shape_within c cond drives ls ms ca cb first second some none u v

  -- a statement without indices
  shape_direct : (p : Place) (b : ℕ) (t : Term) → MayGive held t (held b) → (d : Bool) → nat_eq b x ≡ d
      → Shape (if d || false then driving p no_picks t ∷ [] else []) ((d || false) && true) (λ old. if d then given (types_of held) x t else old)
  shape_direct p b t may true q =
      one_given (record {
        live = driving p no_picks t;
        only = refl;
        is_covered = refl;
        direct = refl;
        may = subst (λ z. MayGive held t (held z)) (eqb-true b x q) may;
        gives = λ old. refl;
      })
  shape_direct p b t may false q = untouched (record { none = refl; uncovered = refl; same = λ old. refl })

  -- and one through indices
  shape_picked : (depth : ℕ) (p : Place) (ps : Picks) (t : Term) (e : NetTerm) (cs : List Candidate) (among : Bool)
      → (among ≡ true → CandidateOf cs x) → (among ≡ false → (c : Candidate) → In cs c → c.number ≡ x → ⊥)
      → Shape (if among then driving p ps t ∷ [] else []) (among && false) (through (types_of held) depth x cs e)
  shape_picked depth p ps t e cs true here apart =
      let c = here refl in
      several (record {
        some = omega arith;
        two = λ f. absurd cc;
        chooses = λ old. through_chooses (types_of held) depth x e cs old c.candidate c.is_found c.of_leaf;
      })
  shape_picked depth p ps t e cs false here apart =
      untouched (record { none = refl; uncovered = refl; same = λ old. through_same (types_of held) depth x e cs old (apart refl) })

  module _ (depth : ℕ) where
    abbrev holds : Holds
    holds = types_of held

    mutual
      shape : (s : LeafStatement) (k : ℕ) → IsTyped held s → Shape (lives depth x s k) (covers depth x s k) (driver holds depth x s k)
      shape (drive p b no_picks t) k h = shape_direct p b t h.0 (nat_eq b x) refl
      shape (drive p b (pick ps q i n each) t) k h =
          let whole = pick ps q i n each in
          let cs = conditions holds whole in
          shape_picked depth p whole t (given holds x t) (candidates (reached b whole) cs) (is_among (reached b whole) x)
          (λ e. candidate_of (reached b whole) cs x (as_many holds b whole) (conditions_are_some holds ps q i n each) (in_among (reached b whole) x e))
          (λ e c m is. not_among (reached b whole) x e (subst (In (reached b whole)) is (number_in (reached b whole) cs c m)))
      shape (when p c a b) k h =
          shape_when (nat_lt k depth) c (lowered holds c) (drives_any x a || drives_any x b) (lives_all depth x a (k + 1)) (lives_all depth x b (k + 1))
          (covers_all depth x a (k + 1)) (covers_all depth x b (k + 1)) (driver_all holds depth x a (k + 1)) (driver_all holds depth x b (k + 1))
          (some_in depth x a b (k + 1)) (none_in depth x a b (k + 1)) (shape_all a (k + 1) h.1) (shape_all b (k + 1) h.2)
      shape (instance i) k h = untouched (record { none = refl; uncovered = refl; same = λ old. refl })

      pub shape_all : (b : LeafBlock) (k : ℕ) → AreTyped held b → Shape (lives_all depth x b k) (covers_all depth x b k) (driver_all holds depth x b k)
      shape_all done k h = untouched (record { none = refl; uncovered = refl; same = λ old. refl })
      shape_all ((then) s b) k h =
          shape_then (lives depth x s k) (lives_all depth x b k) (covers depth x s k) (covers_all depth x b k) (driver holds depth x s k)
          (driver_all holds depth x b k) (shape s k h.0) (shape_all b k h.1)
