-- The types of operands, one by one.
use Rattle.std.proofs.Common.{◌≡◌, List, [], ◌∷◌, ◌++◌, map, Option, Some, None, refl, sym, ap, ◌∙◌, append_assoc, Vec, Global}
use Rattle.std.specs.Prelude.{option_map}
use Rattle.std.proofs.lemmas.List.{map-append}
use Rattle.fir_ast.specs.Types.{DataType}
use Rattle.fir_meaning.specs.Checked.{Checked, is_found, joined, together}
use Rattle.fir_types.specs.declared.found.Found.{Found}
use Rattle.fir_types.proofs.GrownScopes.{append_none}
use Rattle.fir_types.specs.working.Judged.{Is}
use Rattle.fir_types.specs.working.Seen.{found_type}

-- what is found so far, and the operands that are left
pub record FoundSoFar (ts : List DataType) (whole left : Checked (List DataType)) (all : Option (List Found)) : Type 0 where
  pub has : whole.has ≡ joined (λ us vs. us ++ vs) (option_map (map (found_type ts)) all) left.has
  pub shows : whole.shows ≡ left.shows

pub found_first : (ts : List DataType) (whole : Checked (List DataType)) (items : List Found) → items ≡ [] → FoundSoFar ts whole whole (Some items)
found_first ts whole items none = record { has = all_behind whole.has ∙ ap (λ xs. joined (λ us vs. us ++ vs) (Some (map (found_type ts) xs)) whole.has) (sym none); shows = refl }
  where
    all_behind : (has : Option (List DataType)) → has ≡ joined (λ us vs. us ++ vs) (Some []) has
    all_behind None = refl
    all_behind (Some us) = refl

-- one operand more
joined_next : (ts : List DataType) (all : Option (List Found)) (x : Option Found) (left : Option (List DataType))
    → joined (λ us vs. us ++ vs) (option_map (map (found_type ts)) all) (joined (λ t us. t ∷ us) (option_map (found_type ts) x) left)
    ≡ joined (λ us vs. us ++ vs) (option_map (map (found_type ts)) (joined (λ vs t. vs ++ t ∷ []) all x)) left
joined_next ts None x left = refl
joined_next ts (Some vs) None left = refl
joined_next ts (Some vs) (Some t) None = refl
joined_next ts (Some vs) (Some t) (Some us) =
    ap Some
    (sym (append_assoc (map (found_type ts) vs) (found_type ts t ∷ []) us)
    ∙ ap (λ ws. ws ++ us) (sym (map-append (found_type ts) vs (t ∷ []))))

pub found_next : (ts : List DataType) (whole rest : Checked (List DataType)) (e : Checked DataType) (all next : Option (List Found)) (x : Option Found)
    → FoundSoFar ts whole (together (λ t us. t ∷ us) e rest) all → Is e (option_map (found_type ts) x) → next ≡ joined (λ vs t. vs ++ t ∷ []) all x
    → FoundSoFar ts whole rest next
found_next ts whole rest e all next x so_far is pushed = record {
  has =
      so_far.has ∙ ap (λ y. joined (λ us vs. us ++ vs) (option_map (map (found_type ts)) all) (joined (λ t us. t ∷ us) y rest.has)) is.has
      ∙ joined_next ts all x rest.has ∙ ap (λ o. joined (λ us vs. us ++ vs) (option_map (map (found_type ts)) o) rest.has) (sym pushed);
  shows = so_far.shows ∙ ap (λ fs. fs ++ rest.shows) is.none;
}

pub found_done : (ts : List DataType) (whole left : Checked (List DataType)) (all : Option (Vec Found Global)) → FoundSoFar ts whole left (option_map (λ v. v.items) all)
    → left ≡ is_found [] → Is whole (option_map (λ v. map (found_type ts) v.items) all)
found_done ts whole left all so_far none = record {
  has = so_far.has ∙ ap (λ (c : Checked (List DataType)). joined (λ us vs. us ++ vs) (option_map (map (found_type ts)) (option_map (λ v. v.items) all)) c.has) none ∙ all_found all;
  none = so_far.shows ∙ ap (λ (c : Checked (List DataType)). c.shows) none;
}
  where
    all_found : (o : Option (Vec Found Global)) → joined (λ us vs. us ++ vs) (option_map (map (found_type ts)) (option_map (λ v. v.items) o)) (Some [])
        ≡ option_map (λ v. map (found_type ts) v.items) o
    all_found None = refl
    all_found (Some v) = ap Some (sym (append_none (map (found_type ts) v.items)))
