-- Names that have numbers: one more of them, and which have none.
use Rattle.std.proofs.Common.{◌≡◌, ℕ, List, [], ◌∷◌, ◌++◌, Bool, true, false, cond, length, refl, sym, ap, ◌∙◌, inl, inr, ◌⊎◌, ⊎_elim}
use Rattle.std.specs.Prelude.{Vec, slice_get, Option, Some, None, is_some}
use Rattle.std.specs.declared.alloc.Global.{Global}
use Rattle.std.specs.Map.{lookup}
use Rattle.std.specs.Str.{bytes_eq}
use Rattle.indexmap.specs.IndexMap.{insert_entry}
use Rattle.fir_base.specs.Lists.{In}
use Rattle.fir_base.specs.Words.{is_among}
use Rattle.fir_base.proofs.Elements.{get_in}
use Rattle.fir_base.proofs.Members.{in_either}
use Rattle.fir_base.proofs.SameNames.{name_is, name_same}
use Rattle.fir_base.proofs.Writes.{push_left, push_end}
use Rattle.ver_ast.proofs.Chosen.{in_or_not, is_named}
use Rattle.ver_valid.specs.declared.numbers.Numbers.{Numbers}
use Rattle.ver_valid.specs.working.Numbered.{number_in, IsNumbering}

-- whether two keys spell one name
abbrev pub same_key : Vec ℕ Global → Vec ℕ Global → Bool
same_key a b = bytes_eq a.items b.items

abbrev found_in : List (Vec ℕ Global × ℕ) → List ℕ → Option ℕ
found_in entries n = lookup (λ known. bytes_eq n known.items) entries

cond_twice : (b : Bool) (x : ℕ) (y z : Option ℕ) → cond b (Some x) (cond b y z) ≡ cond b (Some x) z
cond_twice true x y z = refl
cond_twice false x y z = refl

-- what is found after an insertion
found_inserted : (es : List (Vec ℕ Global × ℕ)) (key : Vec ℕ Global) (i : ℕ) (n : List ℕ)
    → found_in (insert_entry same_key es key i) n ≡ cond (bytes_eq n key.items) (Some i) (found_in es n)
found_inserted [] key i n = refl
found_inserted (e ∷ es) key i n = by (bytes_eq key.items e.0.items) refl (found_inserted es key i n)
  where
    other : (b : Bool) → bytes_eq n key.items ≡ b → bytes_eq key.items e.0.items ≡ false
        → cond (bytes_eq n e.0.items) (Some e.1) (cond b (Some i) (found_in es n)) ≡ cond b (Some i) (cond (bytes_eq n e.0.items) (Some e.1) (found_in es n))
    other true h apart = rw (ap (λ (m : List ℕ). bytes_eq m e.0.items) (name_is n key.items h) ∙ apart) refl
    other false h apart = refl

    by : (b : Bool) → bytes_eq key.items e.0.items ≡ b → found_in (insert_entry same_key es key i) n ≡ cond (bytes_eq n key.items) (Some i) (found_in es n)
        → found_in (cond b ((e.0, i) ∷ es) (e ∷ insert_entry same_key es key i)) n ≡ cond (bytes_eq n key.items) (Some i) (cond (bytes_eq n e.0.items) (Some e.1) (found_in es n))
    by true h behind =
        rw (name_is key.items e.0.items h) (sym (cond_twice (bytes_eq n e.0.items) i (Some e.1) (found_in es n)))
    by false h behind =
        ap (λ (o : Option ℕ). cond (bytes_eq n e.0.items) (Some e.1) o) behind ∙ other (bytes_eq n key.items) refl h

one_found : (b : Bool) (i k : ℕ) (old : Option ℕ) → cond b (Some i) old ≡ Some k → ((b ≡ true) × (i ≡ k)) ⊎ (old ≡ Some k)
one_found true i k old e = inl (refl, cc)
one_found false i k old e = inr e

one_missed : (b : Bool) (i : ℕ) (old : Option ℕ) → cond b (Some i) old ≡ None → (b ≡ false) × (old ≡ None)
one_missed true i old e = absurd (cc)
one_missed false i old e = (refl, e)

-- a name behind those that have numbers
pub numbering_more : (names : List (List ℕ)) (name : List ℕ) (old new : Numbers) (key : Vec ℕ Global) (i : ℕ)
    → new.numbers.entries ≡ insert_entry same_key old.numbers.entries key i → key.items ≡ name → i ≡ length names → IsNumbering names old
    → IsNumbering (names ++ name ∷ []) new
numbering_more names name old new key i inserted spelled last t =
    let after : (n : List ℕ) → number_in new n ≡ cond (bytes_eq n name) (Some i) (number_in old n) =
    λ n.
    ap (λ entries. found_in entries n) inserted ∙ found_inserted old.numbers.entries key i n
    ∙ ap (λ (m : List ℕ). cond (bytes_eq n m) (Some i) (number_in old n)) spelled in
    record {
      found = λ n k e.
          ⊎_elim
          (λ (here : (bytes_eq n name ≡ true) × (i ≡ k)).
          ap (slice_get (names ++ name ∷ [])) (sym here.1 ∙ last) ∙ push_end names name ∙ ap Some (sym (name_is n name here.0)))
          (λ (there : number_in old n ≡ Some k). push_left names (name ∷ []) k n (t.found n k there))
          (one_found (bytes_eq n name) i k (number_in old n) (sym (after n) ∙ e));
      missed = λ n e m.
          let none = one_missed (bytes_eq n name) i (number_in old n) (sym (after n) ∙ e) in
          ⊎_elim
          (λ (o : In names n). t.missed n none.1 o)
          (λ (o : In (name ∷ []) n). ⊎_elim
          (λ (same : name ≡ n).
          let yes : bytes_eq n name ≡ true = ap (λ (m : List ℕ). bytes_eq n m) same ∙ name_same n in
          let no : true ≡ false = sym yes ∙ none.0 in
          absurd (cc))
          (λ (no : ⊥). no)
          o)
          (in_either names (name ∷ []) n m);
    }

-- whether a name has a number
pub has_among : (names : List (List ℕ)) (numbers : Numbers) → IsNumbering names numbers → (n : List ℕ) → is_some (number_in numbers n) ≡ is_among names n
has_among names numbers t n = by (number_in numbers n) refl
  where
    by : (o : Option ℕ) → number_in numbers n ≡ o → is_some o ≡ is_among names n
    by (Some i) e = sym (is_named names n (get_in names i n (t.found n i e)))
    by None e = ⊎_elim (λ (m : In names n). absurd (t.missed n e m)) (λ (f : is_among names n ≡ false). sym f) (in_or_not names n)
