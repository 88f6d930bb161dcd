-- The roots of references, of nodes and of other expressions: their ends are leaves of the circuit, and stand for all ends of the side.
use Rattle.std.proofs.Common.{◌≡◌, ℕ, zero, suc, List, [], ◌∷◌, ◌++◌, Bool, true, false, ◌&&◌, if◌then◌else◌, map, refl, inl, inr, ◌⊎◌, ⊎_elim, sym, ap, ◌∙◌, subst, Vec, Global}
use Rattle.std.specs.Prelude.{not}
use Rattle.std.proofs.lemmas.List.{map-append}
use Rattle.fir_base.specs.Lists.{In}
use Rattle.fir_base.proofs.Members.{in_left, in_right, in_either, in_map, in_map_from}
use Rattle.fir_ast.specs.declared.place.Place.{Place}
use Rattle.fir_ast.specs.Types.{DataType}
use Rattle.fir_ast.specs.Circuits.{CircuitTree}
use Rattle.fir_meaning.specs.LeafPaths.{LeafPath}
use Rattle.fir_meaning.specs.TypeLeaves.{TypeLeaf, type_leaves}
use Rattle.fir_meaning.specs.working.NameGroups.{HasNames}
use Rattle.fir_infer_resets.specs.declared.item.Step.{Step}
use Rattle.fir_infer_resets.specs.declared.root.Access.{Access}
use Rattle.fir_infer_resets.specs.declared.root.Access.TheVariants as access
use Rattle.fir_infer_resets.specs.declared.root.Root.{Root}
use Rattle.fir_infer_resets.specs.declared.root.Root.TheVariants as root
use Rattle.fir_meaning.specs.ResetItems.{End, is_reset, value_end, leaf_end}
use Rattle.fir_reset.specs.working.ElementPaths.{any_element}
use Rattle.fir_meaning.specs.ResetWalks.{IsReset, IsLeafOf}
use Rattle.fir_infer_resets.specs.working.Holding.{path_of}
use Rattle.fir_infer_resets.specs.working.FirstEnds.{access_behind, end_of_leaf, end_of_value, first_ends}
use Rattle.fir_infer_resets.proofs.SharedClasses.{differ_share}
use Rattle.fir_infer_resets.proofs.FirstEndNumbers.{unlike_reset}
use Rattle.fir_infer_resets.proofs.SidesMeet.{IsLike, LikeLeaf, StandsAmong, IsSide}
use Rattle.fir_reset.proofs.ReferencePaths.{AllSome}

-- what the indices pick
pub data Picked (ns : List ℕ) (p : Place) (a : Access) : Type 0 where
  fixed : ns ≡ [] → a ≡ access.Fixed → Picked ns p a
  picks : (n : ℕ) (ms : List ℕ) → ns ≡ n ∷ ms → AllSome ns → a ≡ access.Picks p → Picked ns p a
  empty : (n : ℕ) (ms : List ℕ) → ns ≡ n ∷ ms → (AllSome ns → ⊥) → a ≡ access.Empty p → Picked ns p a

picked_on : (p : Place) (ns : List ℕ) → (AllSome ns × (access_behind p (access.Picks p) ns ≡ access.Picks p)) ⊎ ((AllSome ns → ⊥) × (access_behind p (access.Picks p) ns ≡ access.Empty p))
picked_on p [] = inl (tt, refl)
picked_on p (zero ∷ ns) = inr ((λ h. h), refl)
picked_on p (suc n ∷ ns) = picked_on p ns

pub picked : (p : Place) (ns : List ℕ) → Picked ns p (access_behind p access.Fixed ns)
picked p [] = fixed refl refl
picked p (zero ∷ ns) = empty zero ns refl (λ h. h) refl
picked p (suc n ∷ ns) =
    ⊎_elim
    (λ (h : AllSome ns × (access_behind p (access.Picks p) ns ≡ access.Picks p)). picks (suc n) ns refl h.0 h.1)
    (λ (h : (AllSome ns → ⊥) × (access_behind p (access.Picks p) ns ≡ access.Empty p)). empty (suc n) ns refl h.0 h.1)
    (picked_on p ns)

one_like : (c : CircuitTree) (a b : End) → a.ground_type ≡ b.ground_type → (IsReset b → ⊥) → IsLike c a b
one_like c a b e other = record { ground_type = e; class = λ r. absurd (other r) }

-- of an expression that is no reference and has no Reset
pub record HasNoReset (t : DataType) : Type 0 where
  pub none : (l : TypeLeaf) → In (type_leaves t) l → is_reset l.ground_type ≡ false

module _ (c : CircuitTree) (number : ℕ) (t : DataType) (p : Place) (no : HasNoReset t) where
  value_there : (g : DataType) → is_reset g ≡ false → end_of_value p (is_reset g) g ≡ value_end p g ∷ []
  value_there g e = ap (λ b. end_of_value p b g) e

  pub value_side : IsSide c number t (λ l. value_end p l.ground_type ∷ []) (root.Value p)
  value_side =
      record {
        within = λ l i a m.
            let there : In (value_end p l.ground_type ∷ []) a = subst (λ es. In es a) (value_there l.ground_type (no.none l i)) m in (
              there,
              λ r. absurd (unlike_reset l.ground_type (no.none l i) (ground l a there ∙ r)),
            );
        covers = λ l k i j like b m.
            record {
              end = value_end p l.ground_type;
              among = subst (λ es. In es (value_end p l.ground_type)) (sym (value_there l.ground_type (no.none l i))) (inl refl);
              like = one_like c (value_end p l.ground_type) b (like.ground_type ∙ ground k b m) (λ r. unlike_reset k.ground_type (no.none k j) (ground k b m ∙ r));
            };
      }
    where
      ground : (l : TypeLeaf) (a : End) → In (value_end p l.ground_type ∷ []) a → l.ground_type ≡ a.ground_type
      ground l a (inl e) = ap (λ (x : End). x.ground_type) e
      ground l a (inr f) = absurd f

-- of a reference to what is declared, of which all paths lead to leaves of the circuit
module _ (c : CircuitTree) (names : HasNames c) (number : ℕ) (t : DataType) (place : Place) (paths : List LeafPath) (first : LeafPath) where
  -- it is a leaf of the circuit, with each leaf behind it
  pub record AreOfCircuit : Type 0 where
    pub each : (q : LeafPath) → In paths q → (l : TypeLeaf) → In (type_leaves t) l → IsLeafOf c (leaf_end number place (q ++ l.path) l.ground_type)
    pub alike : (q : LeafPath) → In paths q → map any_element q ≡ map any_element first

  module _ (of : AreOfCircuit) (ends : TypeLeaf → List End) (dynamic : Bool) (p : Place)
      (ends_are : (l : TypeLeaf) → ends l ≡ map (λ path. leaf_end number place (path ++ l.path) l.ground_type) paths
      ++ (if dynamic && not (is_reset l.ground_type) then value_end p l.ground_type ∷ [] else [])) where
    abbrev leaf_here : LeafPath → TypeLeaf → End
    leaf_here q l = leaf_end number place (q ++ l.path) l.ground_type

    abbrev values_here : TypeLeaf → List End
    values_here l = if dynamic && not (is_reset l.ground_type) then value_end p l.ground_type ∷ [] else []

    among_leaves : (l : TypeLeaf) (q : LeafPath) → In paths q → In (ends l) (leaf_here q l)
    among_leaves l q i =
        subst (λ es. In es (leaf_here q l)) (sym (ends_are l))
        (in_left (map (λ path. leaf_here path l) paths) (values_here l) (leaf_here q l) (in_map (λ path. leaf_here path l) paths q i))

    among_values : (l : TypeLeaf) → dynamic ≡ true → is_reset l.ground_type ≡ false → In (ends l) (value_end p l.ground_type)
    among_values l d r =
        let there : values_here l ≡ value_end p l.ground_type ∷ [] =
        ap (λ b. if b && not (is_reset l.ground_type) then value_end p l.ground_type ∷ [] else []) d
        ∙ ap (λ b. if true && not b then value_end p l.ground_type ∷ [] else []) r in
        subst (λ es. In es (value_end p l.ground_type)) (sym (ends_are l))
        (in_right (map (λ path. leaf_here path l) paths) (values_here l) (value_end p l.ground_type) (subst (λ es. In es (value_end p l.ground_type)) (sym there) (inl refl)))

    -- an end of the side
    abbrev OfEnds : TypeLeaf → End → Type 0
    OfEnds l b = ((q : LeafPath) × In paths q × (leaf_here q l ≡ b)) ⊎ ((dynamic ≡ true) × (is_reset l.ground_type ≡ false) × (value_end p l.ground_type ≡ b))

    of_ends : (l : TypeLeaf) (b : End) → In (ends l) b → OfEnds l b
    of_ends l b m =
        ⊎_elim
        (λ (k : In (map (λ path. leaf_here path l) paths) b). let r = in_map_from (λ path. leaf_here path l) paths b k in inl (r.0, r.1, r.2))
        (λ (k : In (values_here l) b). inr (by dynamic (is_reset l.ground_type) k))
        (in_either (map (λ path. leaf_here path l) paths) (values_here l) b (subst (λ es. In es b) (ends_are l) m))
      where
        by : (d r : Bool) → In (if d && not r then value_end p l.ground_type ∷ [] else []) b → (d ≡ true) × (r ≡ false) × (value_end p l.ground_type ≡ b)
        by true false (inl e) = (refl, refl, e)
        by true false (inr f) = absurd f
        by true true k = absurd k
        by false r k = absurd k

    -- the first path's leaf stands for that of another path
    first_for : (l k : TypeLeaf) (q : LeafPath) (b : End) → In (type_leaves t) l → In (type_leaves t) k → LikeLeaf l k → In paths first → In paths q → leaf_here q k ≡ b
        → IsLike c (leaf_here first l) b
    first_for l k q b i j like f m e =
        subst (IsLike c (leaf_here first l)) e
        (record {
          ground_type = like.ground_type;
          class = λ r. differ_share c names (leaf_here q k) (leaf_here first l) (of.each q m k j) (of.each first f l i)
              (record {
                number = number;
                path = q ++ k.path;
                other = first ++ l.path;
                one_is = refl;
                other_is = refl;
                same =
                    map-append any_element q k.path ∙ ap (λ z. z ++ map any_element k.path) (of.alike q m) ∙ ap (λ z. map any_element first ++ z) (sym like.path)
                    ∙ sym (map-append any_element first l.path);
                ground_type = sym like.ground_type;
                place = refl;
              });
        })

    ends_ground : (k : TypeLeaf) (b : End) → OfEnds k b → k.ground_type ≡ b.ground_type
    ends_ground k b (inl h) = ap (λ (x : End). x.ground_type) h.2
    ends_ground k b (inr h) = ap (λ (x : End). x.ground_type) h.2

    leaf_within : (l : TypeLeaf) → In (type_leaves t) l → In paths first → (x : End) → In (leaf_here first l ∷ []) x → In (ends l) x × (IsReset x → IsLeafOf c x)
    leaf_within l i f x (inl e) = (subst (In (ends l)) e (among_leaves l first f), λ r. subst (IsLeafOf c) e (of.each first f l i))
    leaf_within l i f x (inr h) = absurd h

    value_within : (l : TypeLeaf) → dynamic ≡ true → is_reset l.ground_type ≡ false → (x : End) → In (value_end p l.ground_type ∷ []) x → In (ends l) x × (IsReset x → IsLeafOf c x)
    value_within l d r x (inl e) =
        (subst (In (ends l)) e (among_values l d r), λ h. absurd (unlike_reset l.ground_type r (ap (λ (y : End). y.ground_type) e ∙ h)))
    value_within l d r x (inr h) = absurd h

    leaf_covers : (l k : TypeLeaf) → In (type_leaves t) l → In (type_leaves t) k → LikeLeaf l k → In paths first → ((dynamic ≡ true) → is_reset k.ground_type ≡ false → ⊥) → (b : End)
        → OfEnds k b → StandsAmong c (leaf_here first l ∷ []) b
    leaf_covers l k i j like f not_value b (inl h) = record { end = leaf_here first l; among = inl refl; like = first_for l k h.0 b i j like f h.1 h.2 }
    leaf_covers l k i j like f not_value b (inr h) = absurd (not_value h.0 h.1)

    value_covers : (l k : TypeLeaf) → LikeLeaf l k → is_reset l.ground_type ≡ false → (b : End) → OfEnds k b → StandsAmong c (value_end p l.ground_type ∷ []) b
    value_covers l k like r b o =
        let ground = like.ground_type ∙ ends_ground k b o in
        record { end = value_end p l.ground_type; among = inl refl; like = one_like c (value_end p l.ground_type) b ground (λ h. unlike_reset l.ground_type r (ground ∙ h)) }

    -- the access fits the paths
    pub data Fits (a : Access) : Type 0 where
      fits_fixed : dynamic ≡ false → In paths first → a ≡ access.Fixed → Fits a
      fits_picks : dynamic ≡ true → In paths first → a ≡ access.Picks p → Fits a
      fits_empty : dynamic ≡ true → ((q : LeafPath) → In paths q → ⊥) → a ≡ access.Empty p → Fits a

    -- the ends by whether the ground type is a Reset
    record IsEnds (l : TypeLeaf) (es : List End) : Type 0 where
      within : (x : End) → In es x → In (ends l) x × (IsReset x → IsLeafOf c x)
      covers : (k : TypeLeaf) → In (type_leaves t) k → LikeLeaf l k → (b : End) → OfEnds k b → StandsAmong c es b

    ends_by : (a : Access) → Fits a → (l : TypeLeaf) → In (type_leaves t) l → (r : Bool) → is_reset l.ground_type ≡ r
        → IsEnds l (end_of_leaf number (first ++ l.path) place a r l.ground_type)
    ends_by a (fits_fixed d f e) l i r h =
        subst (λ (z : Access). IsEnds l (end_of_leaf number (first ++ l.path) place z r l.ground_type)) (sym e)
        (record {
          within = leaf_within l i f;
          covers = λ k j like b o. leaf_covers l k i j like f (λ yes n. let clash : true ≡ false = sym yes ∙ d in cc) b o;
        })
    ends_by a (fits_picks d f e) l i true h =
        subst (λ (z : Access). IsEnds l (end_of_leaf number (first ++ l.path) place z true l.ground_type)) (sym e)
        (record {
          within = leaf_within l i f;
          covers = λ k j like b o. leaf_covers l k i j like f (λ yes n. let clash : true ≡ false = sym h ∙ ap is_reset like.ground_type ∙ n in cc) b o;
        })
    ends_by a (fits_picks d f e) l i false h =
        subst (λ (z : Access). IsEnds l (end_of_leaf number (first ++ l.path) place z false l.ground_type)) (sym e)
        (record { within = value_within l d h; covers = λ k j like b o. value_covers l k like h b o })
    ends_by a (fits_empty d none e) l i false h =
        subst (λ (z : Access). IsEnds l (end_of_leaf number (first ++ l.path) place z false l.ground_type)) (sym e)
        (record { within = value_within l d h; covers = λ k j like b o. value_covers l k like h b o })
    ends_by a (fits_empty d none e) l i true h =
        subst (λ (z : Access). IsEnds l (end_of_leaf number (first ++ l.path) place z true l.ground_type)) (sym e)
        (record {
          within = λ x m. absurd m;
          covers = λ k j like b o.
              absurd
              (⊎_elim
              (λ (z : (q : LeafPath) × In paths q × (leaf_here q k ≡ b)). none z.0 z.1)
              (λ (z : (dynamic ≡ true) × (is_reset k.ground_type ≡ false) × (value_end p k.ground_type ≡ b)).
              let clash : true ≡ false = sym h ∙ ap is_reset like.ground_type ∙ z.1 in cc)
              o);
        })

    pub leaf_side : (own : Root) (path : Vec Step Global) (a : Access) → own ≡ root.Leaf path place a → path_of path.items ≡ first → Fits a → IsSide c number t ends own
    leaf_side own path a is steps fits =
        record {
          within = λ l i x m. (at l i).within x (subst (λ es. In es x) (same l) m);
          covers = λ l k i j like b m. subst (λ es. StandsAmong c es b) (sym (same l)) ((at l i).covers k j like b (of_ends k b m));
        }
      where
        same : (l : TypeLeaf) → first_ends number own l.path l.ground_type ≡ end_of_leaf number (first ++ l.path) place a (is_reset l.ground_type) l.ground_type
        same l =
            ap (λ (r : Root). first_ends number r l.path l.ground_type) is
            ∙ ap (λ z. end_of_leaf number (z ++ l.path) place a (is_reset l.ground_type) l.ground_type) steps

        at : (l : TypeLeaf) → In (type_leaves t) l → IsEnds l (end_of_leaf number (first ++ l.path) place a (is_reset l.ground_type) l.ground_type)
        at l i = ends_by a fits l i (is_reset l.ground_type) refl
