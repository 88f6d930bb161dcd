-- What has no driver.
use Rattle.std.proofs.Common.{◌≡◌, ℕ, List, [], ◌∷◌, ◌++◌, Bool, true, false, refl, sym, ap, ◌∙◌, subst}
use Rattle.std.specs.Prelude.{Option, Some, None, drop, map, flat_map, option_map, is_some, slice_get, not, ◌&&◌, ◌||◌, if◌then◌else◌}
use Rattle.std.specs.Str.{bytes_eq}
use Rattle.fir_base.specs.Words.{is_among}
use Rattle.fir_base.proofs.SameNames.{name_is, name_other, name_apart}
use Rattle.ver_ast.specs.declared.place.VPlace.{VPlace}
use Rattle.ver_ast.specs.declared.tree.Edge.{Edge}
use Rattle.ver_ast.specs.declared.tree.Resetting.{Resetting}
use Rattle.ver_ast.specs.declared.tree.Write.{Write}
use Rattle.ver_fault.specs.Faults.{VFault}
use Rattle.ver_places.specs.Places.{place_at}
use Rattle.ver_check.specs.FaultForms.{undriven_fault}
use Rattle.ver_check.specs.Scopes.{Declaration, Scope, is_driven}
use Rattle.ver_check.specs.ItemFaults.{Before, Driver, at_array, driven_faults, driver_of, resetting_faults, resetting_faults_by, tested_faults, writes_faults}
use Rattle.ver_check.specs.TreeFaults.{is_assigned, undriven_of, behind_writes, with_written}
use Rattle.ver_check.specs.working.Walks.{due_of, missing_faults}
use Rattle.ver_check.proofs.Faultless.{first_empty, second_empty}
use Rattle.std.proofs.lemmas.List.{append-nil, append_assoc}

pub free_of : (p : VPlace) (n : List ℕ) (o : Option Driver) → driven_faults p n o ≡ [] → o ≡ None
free_of p n None e = refl
free_of p n (Some d) e = absurd (cc)

-- a block without a fault writes what no block before it writes
pub write_free : (before : Before) (w : Write) (ws : List Write) (ps : List VPlace) → writes_faults before (w ∷ ws) ps ≡ [] → driver_of before.written w.array ≡ None
write_free before w ws ps e = free_of _ w.array (driver_of before.written w.array) (second_empty _ _ (first_empty _ _ (first_empty _ _ e)))

tested_free : (before : Before) (b : Resetting) (ps : List VPlace) → tested_faults before b ps ≡ [] → driver_of before.written b.target ≡ None
tested_free before b ps e = free_of _ b.target (driver_of before.written b.target) (second_empty _ _ (second_empty _ _ (first_empty _ _ e)))

free_by : (before : Before) (o : Option Edge) (b : Resetting) (ps : List VPlace) → resetting_faults_by before o b ps ≡ [] → driver_of before.written b.target ≡ None
free_by before None b ps h = tested_free before b (drop 2 ps) h
free_by before (Some x) b ps h = tested_free before b (drop 5 ps) (second_empty _ _ (first_empty _ _ (first_empty _ _ h)))

pub reset_free : (before : Before) (b : Resetting) (ps : List VPlace) → resetting_faults before b ps ≡ [] → driver_of before.written b.target ≡ None
reset_free before b ps e = free_by before b.edge b ps e

-- what is missing of what is due, in the order of the text
missing_one : (ds : List Driver) (d : Declaration)
    → (if is_driven d.kind && not (is_assigned ds d) then undriven_fault d.place d.name ∷ [] else []) ≡ flat_map (missing_faults ds) (due_of d)
missing_one ds d = by (is_driven d.kind)
  where
    by : (b : Bool)
        → (if b && not (is_assigned ds d) then undriven_fault d.place d.name ∷ [] else [])
        ≡ flat_map (missing_faults ds) (if b then record { name = d.name; place = d.place } ∷ [] else [])
    by true = sym (append-nil (missing_faults ds (record { name = d.name; place = d.place })))
    by false = refl

both_parts : {S T : Type 0} (f : S → List T) (xs ys : List S) → flat_map f (xs ++ ys) ≡ flat_map f xs ++ flat_map f ys
both_parts f [] ys = refl
both_parts f (x ∷ xs) ys = ap (λ zs. f x ++ zs) (both_parts f xs ys) ∙ sym (append_assoc (f x) (flat_map f xs) (flat_map f ys))

pub missing_all : (before : Before) (scope : Scope) (dues : List Driver) → dues ≡ flat_map due_of scope → before.scope ≡ scope
    → undriven_of before ≡ flat_map (missing_faults before.assigned) dues
missing_all before scope dues e is = by before.scope ∙ ap (flat_map (missing_faults before.assigned)) (sym (e ∙ ap (flat_map due_of) (sym is)))
  where
    one : Declaration → List VFault
    one d = if is_driven d.kind && not (is_assigned before.assigned d) then undriven_fault d.place d.name ∷ [] else []

    by : (ds : Scope) → flat_map one ds ≡ flat_map (missing_faults before.assigned) (flat_map due_of ds)
    by [] = refl
    by (d ∷ ds) =
        ap (λ fs. fs ++ flat_map one ds) (missing_one before.assigned d) ∙ ap (λ fs. flat_map (missing_faults before.assigned) (due_of d) ++ fs) (by ds)
        ∙ sym (both_parts (missing_faults before.assigned) (due_of d) (flat_map due_of ds))

name_turned : (a b : List ℕ) → bytes_eq a b ≡ bytes_eq b a
name_turned a b = by (bytes_eq b a) refl
  where
    by : (c : Bool) → bytes_eq b a ≡ c → bytes_eq a b ≡ bytes_eq b a
    by true e = subst (λ (n : List ℕ). bytes_eq a n ≡ bytes_eq n a) (sym (name_is b a e)) refl
    by false e = name_other a b (λ s. name_apart b a e (sym s)) ∙ sym e

among_by : (d : Driver) (b more : Bool) (o : Option Driver) → more ≡ is_some o → (b || more) ≡ is_some (if b then Some d else o)
among_by d true more o e = refl
among_by d false more o e = e

-- a name that has a driver stands among those of all
among_is : (ds : List Driver) (n : List ℕ) → is_among (map (λ (d : Driver). d.name) ds) n ≡ is_some (driver_of ds n)
among_is [] n = refl
among_is (d ∷ ds) n =
    ap (λ (b : Bool). b || is_among (map (λ (x : Driver). x.name) ds) n) (name_turned d.name n)
    ∙ among_by d (bytes_eq n d.name) (is_among (map (λ (x : Driver). x.name) ds) n) (driver_of ds n) (among_is ds n)

place_some : (o : Option Driver) (p : VPlace) → Some p ≡ option_map (λ (d : Driver). d.place) o → is_some o ≡ true
place_some None p e = absurd (cc)
place_some (Some d) p e = refl

place_none : (o : Option Driver) → None ≡ option_map (λ (d : Driver). d.place) o → is_some o ≡ false
place_none None e = refl
place_none (Some d) e = absurd (cc)

pub none_missing : (ds : List Driver) (d : Driver) (p : VPlace) → Some p ≡ option_map (λ (x : Driver). x.place) (driver_of ds d.name) → missing_faults ds d ≡ []
none_missing ds d p e = ap (λ (b : Bool). if not b then undriven_fault d.place d.name ∷ [] else []) (among_is ds d.name ∙ place_some (driver_of ds d.name) p e)

pub one_missing : (ds : List Driver) (d : Driver) → None ≡ option_map (λ (x : Driver). x.place) (driver_of ds d.name)
    → missing_faults ds d ≡ undriven_fault d.place d.name ∷ []
one_missing ds d e = ap (λ (b : Bool). if not b then undriven_fault d.place d.name ∷ [] else []) (among_is ds d.name ∙ place_none (driver_of ds d.name) e)

-- the first of some writes without a fault
pub noted : (before : Before) (writes : List Write) (w : Write) (ps : List VPlace) → Some w ≡ slice_get writes 0 → writes_faults before writes ps ≡ []
    → (driver_of before.written w.array ≡ None) × (behind_writes before writes ps ≡ with_written before w.array (place_at 0 (at_array before w ps)))
noted before [] w ps e none = absurd (cc)
noted before (x ∷ xs) w ps e none =
    let same : x ≡ w = cc in (
      subst (λ (y : Write). driver_of before.written y.array ≡ None) same (write_free before x xs ps none),
      ap (λ (y : Write). with_written before y.array (place_at 0 (at_array before y ps))) same,
    )
