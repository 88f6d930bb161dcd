-- A scope with one name more, and one driver more.
use Rattle.std.proofs.Common.{◌≡◌, ℕ, List, [], ◌∷◌, ◌++◌, Bool, true, false, cond, refl, sym, ap, ◌∙◌, subst}
use Rattle.std.specs.Prelude.{Vec, Option, Some, None, option_map}
use Rattle.std.specs.declared.alloc.Global.{Global}
use Rattle.std.specs.Map.{lookup}
use Rattle.std.specs.Option.{option_or}
use Rattle.std.specs.Str.{bytes_eq}
use Rattle.indexmap.specs.IndexMap.{get, insert_entry}
use Rattle.indexmap.proofs.CallerLemmas.{insert_entry-new}
use Rattle.ver_ast.specs.declared.place.VPlace.{VPlace}
use Rattle.ver_check.specs.declared.scope.Entry.{Entry}
use Rattle.ver_check.specs.declared.scope.Scope.{Scope as Names}
use Rattle.ver_check.specs.declared.drivers.Drivers.{Drivers}
use Rattle.ver_check.specs.Scopes.{Declaration, Scope, declaration_of}
use Rattle.ver_check.specs.ItemFaults.{Driver, driver_of}
use Rattle.ver_check.specs.working.Known.{IsNarrowKind, Knows, found, entry_of, declared, driver_in, Drives}

-- whether two keys spell one name
abbrev pub same_key : Vec ℕ Global → Vec ℕ Global → Bool
same_key a b = bytes_eq a.items b.items

module _ {T : Type 0} where
  abbrev found_in : List (Vec ℕ Global × T) → List ℕ → Option T
  found_in entries n = lookup (λ known. bytes_eq n known.items) entries

  abbrev either : List ℕ → T → List ℕ → Option T → Option T
  either n x m o = option_or o (cond (bytes_eq m n) (Some x) None)

  either_cond : (n : List ℕ) (x : T) (m : List ℕ) (b : Bool) (y : T) (o : Option T)
      → cond b (Some y) (either n x m o) ≡ either n x m (cond b (Some y) o)
  either_cond n x m true y o = refl
  either_cond n x m false y o = refl

  last_found : (ks : List (Vec ℕ Global × T)) (key : Vec ℕ Global) (n : List ℕ) (x : T) (m : List ℕ) → key.items ≡ n
      → found_in (ks ++ (key, x) ∷ []) m ≡ either n x m (found_in ks m)
  last_found [] key n x m named = ap (λ (y : List ℕ). cond (bytes_eq m y) (Some x) None) named
  last_found (k ∷ ks) key n x m named =
      ap (cond (bytes_eq m k.0.items) (Some k.1)) (last_found ks key n x m named) ∙ either_cond n x m (bytes_eq m k.0.items) k.1 (found_in ks m)

module _ {S T : Type 0} (f : S → T) where
  mapped_cond : (b : Bool) (s : S) (o : Option S) → option_map f (cond b (Some s) o) ≡ cond b (Some (f s)) (option_map f o)
  mapped_cond true s o = refl
  mapped_cond false s o = refl

last_declared : (ds : Scope) (n : List ℕ) (e : Entry) (m : List ℕ)
    → option_map entry_of (declaration_of (ds ++ declared n e ∷ []) m) ≡ either n e m (option_map entry_of (declaration_of ds m))
last_declared [] n e m = mapped_cond entry_of (bytes_eq m n) (declared n e) None
last_declared (d ∷ ds) n e m =
    mapped_cond entry_of (bytes_eq m d.name) d (declaration_of (ds ++ declared n e ∷ []) m)
    ∙ ap (cond (bytes_eq m d.name) (Some (entry_of d))) (last_declared ds n e m)
    ∙ either_cond n e m (bytes_eq m d.name) (entry_of d) (option_map entry_of (declaration_of ds m))
    ∙ ap (either n e m) (sym (mapped_cond entry_of (bytes_eq m d.name) d (declaration_of ds m)))

-- of the last and those before it
narrow_one : (e : Entry) (n : List ℕ) (b : Bool) (d : Declaration) → IsNarrowKind e.kind → cond b (Some (declared n e)) None ≡ Some d → IsNarrowKind d.kind
narrow_one e n true d narrow h = let same : declared n e ≡ d = cc in subst (λ (x : Declaration). IsNarrowKind x.kind) same narrow
narrow_one e n false d narrow h = absurd (cc)

narrow_first : (x : Declaration) (b : Bool) (rest more : Option Declaration) (d : Declaration)
    → ((y : Declaration) → cond b (Some x) rest ≡ Some y → IsNarrowKind y.kind)
    → (((y : Declaration) → rest ≡ Some y → IsNarrowKind y.kind) → more ≡ Some d → IsNarrowKind d.kind) → cond b (Some x) more ≡ Some d → IsNarrowKind d.kind
narrow_first x true rest more d each go h = each d h
narrow_first x false rest more d each go h = go each h

narrow_last : (ds : Scope) (n : List ℕ) (e : Entry) (m : List ℕ) (d : Declaration) → ((x : Declaration) → declaration_of ds m ≡ Some x → IsNarrowKind x.kind)
    → IsNarrowKind e.kind → declaration_of (ds ++ declared n e ∷ []) m ≡ Some d → IsNarrowKind d.kind
narrow_last [] n e m d each narrow h = narrow_one e n (bytes_eq m n) d narrow h
narrow_last (x ∷ xs) n e m d each narrow h =
    narrow_first x (bytes_eq m x.name) (declaration_of xs m) (declaration_of (xs ++ declared n e ∷ []) m) d each
    (λ less. narrow_last xs n e m d less narrow) h

pub knows_more : (old new : Names) (ds : Scope) (n : List ℕ) (e : Entry) (key : Vec ℕ Global)
    → new.names.entries ≡ insert_entry same_key old.names.entries key e → key.items ≡ n → found old n ≡ None → Knows old ds → IsNarrowKind e.kind
    → Knows new (ds ++ declared n e ∷ [])
knows_more old new ds n e key inserted named free k narrow =
    let missing : get same_key old.names key ≡ None = ap (found old) named ∙ free in
    let grown : new.names.entries ≡ old.names.entries ++ (key, e) ∷ [] = inserted ∙ insert_entry-new same_key old.names key e missing in
    record {
      by_name = λ m.
          ap (λ ks. found_in ks m) grown ∙ last_found old.names.entries key n e m named ∙ ap (either n e m) (k.by_name m) ∙ sym (last_declared ds n e m);
      narrow = λ m d h. narrow_last ds n e m d (k.narrow m) narrow h;
    }

last_driver : (ds : List Driver) (n : List ℕ) (p : VPlace) (m : List ℕ)
    → option_map (λ (d : Driver). d.place) (driver_of (ds ++ record { name = n; place = p } ∷ []) m) ≡ either n p m (option_map (λ (d : Driver). d.place) (driver_of ds m))
last_driver [] n p m = mapped_cond (λ (d : Driver). d.place) (bytes_eq m n) (record { name = n; place = p }) None
last_driver (d ∷ ds) n p m =
    mapped_cond (λ (x : Driver). x.place) (bytes_eq m d.name) d (driver_of (ds ++ record { name = n; place = p } ∷ []) m)
    ∙ ap (cond (bytes_eq m d.name) (Some d.place)) (last_driver ds n p m)
    ∙ either_cond n p m (bytes_eq m d.name) d.place (option_map (λ (x : Driver). x.place) (driver_of ds m))
    ∙ ap (either n p m) (sym (mapped_cond (λ (x : Driver). x.place) (bytes_eq m d.name) d (driver_of ds m)))

pub drives_more : (old new : Drivers) (ds : List Driver) (n : List ℕ) (p : VPlace) (key : Vec ℕ Global)
    → new.names.entries ≡ insert_entry same_key old.names.entries key p → key.items ≡ n → driver_in old n ≡ None → Drives old ds
    → Drives new (ds ++ record { name = n; place = p } ∷ [])
drives_more old new ds n p key inserted named free k m =
    let missing : get same_key old.names key ≡ None = ap (driver_in old) named ∙ free in
    let grown : new.names.entries ≡ old.names.entries ++ (key, p) ∷ [] = inserted ∙ insert_entry-new same_key old.names key p missing in
    ap (λ ks. found_in ks m) grown ∙ last_found old.names.entries key n p m named ∙ ap (either n p m) (k m) ∙ sym (last_driver ds n p m)
