-- A scope with one name more.
use Rattle.std.proofs.Common.{◌≡◌, ℕ, List, [], ◌∷◌, ◌++◌, Bool, true, false, cond, refl, sym, ap, ◌∙◌, inl, inr, ⊎_elim, subst}
use Rattle.std.specs.Prelude.{Vec, Option, Some, None, is_some}
use Rattle.std.specs.declared.alloc.Global.{Global}
use Rattle.std.specs.Map.{lookup}
use Rattle.std.specs.Option.{option_or}
use Rattle.std.specs.Str.{bytes_eq}
use Rattle.std.proofs.lemmas.List.{map-append}
use Rattle.indexmap.specs.IndexMap.{get, insert_entry}
use Rattle.indexmap.proofs.CallerLemmas.{insert_entry-new}
use Rattle.fir_base.specs.Lists.{In, Distinct}
use Rattle.fir_base.proofs.Members.{in_either}
use Rattle.fir_base.proofs.SameNames.{name_other}
use Rattle.fir_base.proofs.Twins.{distinct_more}
use Rattle.ver_valid.specs.declared.declared.Declared.{Declared}
use Rattle.ver_valid.specs.declared.scope.Scope.{Scope}
use Rattle.ver_valid.specs.working.Declarations.{Entry, entry_names, kind_among, IsNarrowKind}
use Rattle.ver_valid.specs.working.Scopes.{found, TellsOf}
use Rattle.ver_valid.proofs.EntryKinds.{known_or_not}

-- whether two keys spell one name
abbrev pub same_key : Vec ℕ Global → Vec ℕ Global → Bool
same_key a b = bytes_eq a.items b.items

abbrev found_in : List (Vec ℕ Global × Declared) → List ℕ → Option Declared
found_in entries n = lookup (λ known. bytes_eq n known.items) entries

-- what is found in front stays, and what is not found there may be the last
found_step : (es : List Entry) (ks : List (Vec ℕ Global × Declared)) (key : Vec ℕ Global) (d : Declared) (n m : List ℕ)
    → found_in ks m ≡ kind_among es m → key.items ≡ n → found_in (ks ++ (key, d) ∷ []) m ≡ kind_among (es ++ (n, d) ∷ []) m
found_step es ks key d n m same named = last_found ks ∙ by (found_in ks m) same ∙ sym (last_kind es)
  where
    either : Option Declared → Option Declared
    either o = option_or o (cond (bytes_eq m n) (Some d) None)

    either_cond : (b : Bool) (x : Declared) (o : Option Declared) → cond b (Some x) (either o) ≡ either (cond b (Some x) o)
    either_cond true x o = refl
    either_cond false x o = refl

    last_found : (ks : List (Vec ℕ Global × Declared)) → found_in (ks ++ (key, d) ∷ []) m ≡ either (found_in ks m)
    last_found [] = ap (λ (x : List ℕ). cond (bytes_eq m x) (Some d) None) named
    last_found (k ∷ ks) = ap (cond (bytes_eq m k.0.items) (Some k.1)) (last_found ks) ∙ either_cond (bytes_eq m k.0.items) k.1 (found_in ks m)

    last_kind : (es : List Entry) → kind_among (es ++ (n, d) ∷ []) m ≡ either (kind_among es m)
    last_kind [] = refl
    last_kind (e ∷ es) = ap (cond (bytes_eq m e.0) (Some e.1)) (last_kind es) ∙ either_cond (bytes_eq m e.0) e.1 (kind_among es m)

    by : (o : Option Declared) → o ≡ kind_among es m → either o ≡ either (kind_among es m)
    by o e = ap either e

absent : (o : Option Declared) → is_some o ≡ false → o ≡ None
absent None e = refl
absent (Some d) e = cc

-- a name that a scope has not is none of the entries, and one that it has is
pub fresh_name : (scope : Scope) (n : List ℕ) (es : List Entry) → TellsOf scope es → is_some (found scope n) ≡ false → In (entry_names es) n → ⊥
fresh_name scope n es t h m = known_or_not es n m (sym (t.by_name n) ∙ absent (found scope n) h)

pub used_name : (scope : Scope) (n : List ℕ) (es : List Entry) → TellsOf scope es → is_some (found scope n) ≡ true → (In (entry_names es) n → ⊥) → ⊥
used_name scope n es t h new =
    let none : kind_among es n ≡ None = unknown es new in
    let is : is_some (kind_among es n) ≡ true = ap is_some (sym (t.by_name n)) ∙ h in
    let no : is_some (kind_among es n) ≡ false = ap is_some none in
    cc
  where
    unknown : (es : List Entry) → (In (entry_names es) n → ⊥) → kind_among es n ≡ None
    unknown [] new = refl
    unknown (e ∷ es) new = rw (name_other n e.0 (λ s. new (inl (sym s)))) (unknown es (λ m. new (inr m)))

pub told_more : (old new : Scope) (es : List Entry) (n : List ℕ) (d : Declared) (key : Vec ℕ Global)
    → new.names.entries ≡ insert_entry same_key old.names.entries key d → key.items ≡ n → is_some (found old n) ≡ false → TellsOf old es → IsNarrowKind d
    → TellsOf new (es ++ (n, d) ∷ [])
told_more old new es n d key inserted named free t narrow =
    let missing : get same_key old.names key ≡ None = ap (found old) named ∙ absent (found old n) free in
    let grown : new.names.entries ≡ old.names.entries ++ (key, d) ∷ [] = inserted ∙ insert_entry-new same_key old.names key d missing in
    record {
      by_name = λ m. ap (λ ks. found_in ks m) grown ∙ found_step es old.names.entries key d n m (t.by_name m) named;
      once =
          subst Distinct (sym (map-append (λ (e : Entry). e.0) es ((n, d) ∷ [])))
          (distinct_more (entry_names es) n t.once (fresh_name old n es t free));
      narrow = λ e m.
          ⊎_elim
          (λ (i : In es e). t.narrow e i)
          (λ (i : In ((n, d) ∷ []) e). ⊎_elim (λ (s : ◌≡◌ {A = Entry} (n, d) e). subst (λ (x : Entry). IsNarrowKind x.1) s narrow) (λ (o : ⊥). absurd o) i)
          (in_either es ((n, d) ∷ []) e m);
    }
