-- The live statements of a leaf are those that are last under some choice.
use Rattle.std.proofs.Common.{◌≡◌, ℕ, ◌+◌, List, [], ◌∷◌, ◌++◌, map, Bool, true, false, ◌&&◌, ◌||◌, not, Option, Some, None, option_map, refl, ap, ◌∙◌, inl, inr, ⊎_elim, nat_lt, if◌then◌else◌}
use Rattle.std.proofs.lemmas.Option.{same_Some}
use Rattle.fir_base.specs.Lists.{In}
use Rattle.fir_base.proofs.Members.{in_left, in_right, in_either, in_map, in_map_from}
use Rattle.fir_meaning.specs.working.Terms.{Term, zeros}
use Rattle.fir_meaning.specs.working.TermReads.{is_picked, is_among, reached}
use Rattle.fir_meaning.specs.working.LeafBlocks.{LeafStatement, drive, when, instance, LeafBlock, done, then}
use Rattle.fir_meaning.specs.working.Choices.{Choice, Live, below, later, first_part, second_part, driving, unless, last, last_all, covers, covers_all, lives, lives_all}
use Rattle.fir_leaf.specs.working.ChoiceLaws.{LivesAreLive}

-- a choice of its own for each part
abbrev merge : Bool → Choice → Choice → Choice
merge h f g [] = h
merge h f g (false ∷ way) = f way
merge h f g (true ∷ way) = g way

none_later : (p q : Option Live) → later p q ≡ None → (p ≡ None) × (q ≡ None)
none_later None q e = (refl, e)
none_later (Some l) q e = absurd cc

drive_covered : (m p h : Bool) (l : Live) → (m && not p) ≡ true → (if m && (not p || h) then Some l else None) ≡ None → ⊥
drive_covered true false h l c e = absurd cc
drive_covered true true h l c e = absurd cc
drive_covered false p h l c e = absurd cc

when_covered : (early h ca cb : Bool) (p q : Option Live) (c : Term) → (ca ≡ true → p ≡ None → ⊥) → (cb ≡ true → q ≡ None → ⊥)
    → (if early then cb || ca else ca && cb) ≡ true → (if early then later q p else option_map (below c) (if h then p else q)) ≡ None → ⊥
when_covered true h ca true p q c f g e n = g refl (none_later q p n).0
when_covered true h ca false p q c f g e n = f e (none_later q p n).1
when_covered false true true true None q c f g e n = f refl refl
when_covered false true true true (Some l) q c f g e n = absurd cc
when_covered false false true true p None c f g e n = g refl refl
when_covered false false true true p (Some l) c f g e n = absurd cc
when_covered false h true false p q c f g e n = absurd cc
when_covered false h false cb p q c f g e n = absurd cc

drive_uncovered : (m p : Bool) (l : Live) → (m && not p) ≡ false → (if m && (not p || false) then Some l else None) ≡ None
drive_uncovered true false l c = absurd cc
drive_uncovered true true l c = refl
drive_uncovered false p l c = refl

drive_live : (m p h : Bool) (d l : Live) → (if m && (not p || h) then Some d else None) ≡ Some l → In (if m then d ∷ [] else []) l
drive_live true false h d l e = inl (same_Some d l e)
drive_live true true true d l e = inl (same_Some d l e)
drive_live true true false d l e = absurd cc
drive_live false p h d l e = absurd cc

drive_last : (m p : Bool) (d l : Live) → In (if m then d ∷ [] else []) l → (if m && (not p || true) then Some d else None) ≡ Some l
drive_last true false d l (inl e) = ap Some e
drive_last true false d l (inr m) = absurd m
drive_last true true d l (inl e) = ap Some e
drive_last true true d l (inr m) = absurd m
drive_last false p d l m = absurd m

joined_live : (covered_later : Bool) (ls ms : List Live) (q p : Option Live) (l : Live) → (covered_later ≡ true → q ≡ None → ⊥)
    → ((n : Live) → p ≡ Some n → In ls n) → ((n : Live) → q ≡ Some n → In ms n)
    → later q p ≡ Some l → In (unless covered_later ls ++ ms) l
joined_live covered_later ls ms (Some n) p l h f g e = in_right (unless covered_later ls) ms l (g l e)
joined_live true ls ms None p l h f g e = absurd (h refl refl)
joined_live false ls ms None p l h f g e = in_left ls ms l (f l e)

when_live : (early h covered_later : Bool) (ls ms : List Live) (q p : Option Live) (c : Term) (l : Live) → (covered_later ≡ true → q ≡ None → ⊥)
    → ((n : Live) → p ≡ Some n → In ls n) → ((n : Live) → q ≡ Some n → In ms n)
    → (if early then later q p else option_map (below c) (if h then p else q)) ≡ Some l
    → In (if early then unless covered_later ls ++ ms else map (below c) (ls ++ ms)) l
when_live true h covered_later ls ms q p c l n f g e = joined_live covered_later ls ms q p l n f g e
when_live false true covered_later ls ms q None c l n f g e = absurd cc
when_live false true covered_later ls ms q (Some d) c l n f g e =
    rw (← same_Some (below c d) l e) (in_map (below c) (ls ++ ms) d (in_left ls ms d (f d refl)))
when_live false false covered_later ls ms None p c l n f g e = absurd cc
when_live false false covered_later ls ms (Some d) p c l n f g e =
    rw (← same_Some (below c d) l e) (in_map (below c) (ls ++ ms) d (in_right ls ms d (g d refl)))

-- some choice makes l the last
record Found (last : Choice → Option Live) (l : Live) : Type 0 where
  choice : Choice
  is : last choice ≡ Some l

record Missed (last : Choice → Option Live) : Type 0 where
  choice : Choice
  is : last choice ≡ None

some_is : (p q : Option Live) (l : Live) → p ≡ Some l → later p q ≡ Some l
some_is (Some m) q l e = e
some_is None q l e = absurd cc

none_is : (p q : Option Live) (o : Option Live) → p ≡ None → q ≡ o → later p q ≡ o
none_is None q o e f = f
none_is (Some m) q o e f = absurd cc

joined_found : (covered_later : Bool) (ls ms : List Live) (l : Live) (f g : Choice → Option Live) → (covered_later ≡ false → Missed g)
    → (In ls l → Found f l) → (In ms l → Found g l)
    → In (unless covered_later ls ++ ms) l → (h : Bool) → Found (λ way. later (g (second_part way)) (f (first_part way))) l
joined_found true ls ms l f g n a b m h = let r = b m in record { choice = merge h r.choice r.choice; is = some_is (g r.choice) (f r.choice) l r.is }
joined_found false ls ms l f g n a b m h =
    ⊎_elim
    (λ (k : In ls l).
    let r = a k in
    let s = n refl in
    record { choice = merge h r.choice s.choice; is = none_is (g s.choice) (f r.choice) (Some l) s.is r.is })
    (λ (k : In ms l). let r = b k in record { choice = merge h r.choice r.choice; is = some_is (g r.choice) (f r.choice) l r.is })
    (in_either ls ms l m)

map_is : (c : Term) (p : Option Live) (d : Live) → p ≡ Some d → option_map (below c) p ≡ Some (below c d)
map_is c p d e = rw e refl

-- the last of a when under a choice
abbrev when_last : Bool → Term → (Choice → Option Live) → (Choice → Option Live) → Choice → Option Live
when_last early c f g way =
    if early
    then later (g (second_part way)) (f (first_part way))
    else option_map (below c) (if way [] then f (first_part way) else g (second_part way))

when_found : (early covered_later : Bool) (ls ms : List Live) (c : Term) (l : Live) (f g : Choice → Option Live) → (covered_later ≡ false → Missed g)
    → ((n : Live) → In ls n → Found f n) → ((n : Live) → In ms n → Found g n)
    → In (if early then unless covered_later ls ++ ms else map (below c) (ls ++ ms)) l
    → Found (when_last early c f g) l
when_found true covered_later ls ms c l f g n a b m = joined_found covered_later ls ms l f g n (a l) (b l) m true
when_found false covered_later ls ms c l f g n a b m =
    let r = in_map_from (below c) (ls ++ ms) l m in
    ⊎_elim
    (λ (k : In ls r.0). let s = a r.0 k in record { choice = merge true s.choice s.choice; is = map_is c (f s.choice) r.0 s.is ∙ ap Some r.2 })
    (λ (k : In ms r.0). let s = b r.0 k in record { choice = merge false s.choice s.choice; is = map_is c (g s.choice) r.0 s.is ∙ ap Some r.2 })
    (in_either ls ms r.0 r.1)

map_none : (c : Term) (p : Option Live) → p ≡ None → option_map (below c) p ≡ None
map_none c p e = rw e refl

when_missed : (early ca cb : Bool) (c : Term) (f g : Choice → Option Live) → (ca ≡ false → Missed f) → (cb ≡ false → Missed g)
    → (if early then cb || ca else ca && cb) ≡ false
    → Missed (when_last early c f g)
when_missed true ca true c f g a b e = absurd cc
when_missed true ca false c f g a b e =
    let r = a e in
    let s = b refl in
    record { choice = merge true r.choice s.choice; is = none_is (g s.choice) (f r.choice) None s.is r.is }
when_missed false true cb c f g a b e = let s = b e in record { choice = merge false s.choice s.choice; is = map_none c (g s.choice) s.is }
when_missed false false cb c f g a b e = let r = a refl in record { choice = merge true r.choice r.choice; is = map_none c (f r.choice) r.is }

module _ (depth x : ℕ) where
  mutual
    covered : (s : LeafStatement) (k : ℕ) → covers depth x s k ≡ true → (f : Choice) → last depth x s k f ≡ None → ⊥
    covered (drive p b ps t) k c f e = drive_covered (is_among (reached b ps) x) (is_picked ps) (f []) (driving p ps t) c e
    covered (when p c a b) k v f e =
        when_covered (nat_lt k depth) (f []) (covers_all depth x a (k + 1)) (covers_all depth x b (k + 1))
        (last_all depth x a (k + 1) (first_part f)) (last_all depth x b (k + 1) (second_part f)) c
        (λ h. covered_all a (k + 1) h (first_part f)) (λ h. covered_all b (k + 1) h (second_part f)) v e
    covered (instance i) k c f e = absurd cc

    pub covered_all : (b : LeafBlock) (k : ℕ) → covers_all depth x b k ≡ true → (f : Choice) → last_all depth x b k f ≡ None → ⊥
    covered_all done k c f e = absurd cc
    covered_all ((then) s b) k c f e =
        when_covered true true (covers depth x s k) (covers_all depth x b k)
        (last depth x s k (first_part f)) (last_all depth x b k (second_part f)) zeros
        (λ h. covered s k h (first_part f)) (λ h. covered_all b k h (second_part f)) c e

  mutual
    uncovered : (s : LeafStatement) (k : ℕ) → covers depth x s k ≡ false → Missed (last depth x s k)
    uncovered (drive p b ps t) k c = record { choice = λ way. false; is = drive_uncovered (is_among (reached b ps) x) (is_picked ps) (driving p ps t) c }
    uncovered (when p c a b) k v =
        when_missed (nat_lt k depth) (covers_all depth x a (k + 1)) (covers_all depth x b (k + 1)) c
        (last_all depth x a (k + 1)) (last_all depth x b (k + 1)) (uncovered_all a (k + 1)) (uncovered_all b (k + 1)) v
    uncovered (instance i) k c = record { choice = λ way. false; is = refl }

    uncovered_all : (b : LeafBlock) (k : ℕ) → covers_all depth x b k ≡ false → Missed (last_all depth x b k)
    uncovered_all done k c = record { choice = λ way. false; is = refl }
    uncovered_all ((then) s b) k c =
        when_missed true (covers depth x s k) (covers_all depth x b k) zeros
        (last depth x s k) (last_all depth x b k) (uncovered s k) (uncovered_all b k) c

  mutual
    live : (s : LeafStatement) (k : ℕ) (f : Choice) (l : Live) → last depth x s k f ≡ Some l → In (lives depth x s k) l
    live (drive p b ps t) k f l e = drive_live (is_among (reached b ps) x) (is_picked ps) (f []) (driving p ps t) l e
    live (when p c a b) k f l e =
        when_live (nat_lt k depth) (f []) (covers_all depth x b (k + 1)) (lives_all depth x a (k + 1)) (lives_all depth x b (k + 1))
        (last_all depth x b (k + 1) (second_part f)) (last_all depth x a (k + 1) (first_part f)) c l
        (λ h. covered_all b (k + 1) h (second_part f)) (live_all a (k + 1) (first_part f)) (live_all b (k + 1) (second_part f)) e
    live (instance i) k f l e = absurd cc

    pub live_all : (b : LeafBlock) (k : ℕ) (f : Choice) (l : Live) → last_all depth x b k f ≡ Some l → In (lives_all depth x b k) l
    live_all done k f l e = absurd cc
    live_all ((then) s b) k f l e =
        joined_live (covers_all depth x b k) (lives depth x s k) (lives_all depth x b k)
        (last_all depth x b k (second_part f)) (last depth x s k (first_part f)) l
        (λ h. covered_all b k h (second_part f)) (live s k (first_part f)) (live_all b k (second_part f)) e

  mutual
    found : (s : LeafStatement) (k : ℕ) (l : Live) → In (lives depth x s k) l → Found (last depth x s k) l
    found (drive p b ps t) k l m = record { choice = λ way. true; is = drive_last (is_among (reached b ps) x) (is_picked ps) (driving p ps t) l m }
    found (when p c a b) k l m =
        when_found (nat_lt k depth) (covers_all depth x b (k + 1)) (lives_all depth x a (k + 1)) (lives_all depth x b (k + 1)) c l
        (last_all depth x a (k + 1)) (last_all depth x b (k + 1))
        (uncovered_all b (k + 1)) (found_all a (k + 1)) (found_all b (k + 1)) m
    found (instance i) k l m = absurd m

    found_all : (b : LeafBlock) (k : ℕ) (l : Live) → In (lives_all depth x b k) l → Found (last_all depth x b k) l
    found_all done k l m = absurd m
    found_all ((then) s b) k l m =
        joined_found (covers_all depth x b k) (lives depth x s k) (lives_all depth x b k) l
        (last depth x s k) (last_all depth x b k) (uncovered_all b k) (found s k l) (found_all b k l) m true

pub lives_are_live : LivesAreLive
lives_are_live depth x b l = (
  (λ m. let r = found_all depth x b 0 l m in record { choice = r.choice; last = r.is }),
  (λ h. live_all depth x b 0 h.choice l h.last),
)
