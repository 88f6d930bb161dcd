-- A table of declarations with one declaration more.
use Rattle.std.proofs.Common.{◌≡◌, ℕ, zero, suc, ◌+◌, ◌<◌, List, [], ◌∷◌, ◌++◌, map, length, slice_get, Bool, cond, Option, Some, None, refl, sym, ap, ◌∙◌, subst, arith}
use Rattle.std.specs.Prelude.{Vec}
use Rattle.std.specs.declared.alloc.Global.{Global}
use Rattle.std.specs.Cmp.Lexicographic.{nat_list_eq_equiv}
use Rattle.std.specs.Map.{lookup}
use Rattle.std.specs.Option.{option_or}
use Rattle.std.specs.Str.{bytes_eq}
use Rattle.std.proofs.lemmas.List.{length-map, map-append}
use Rattle.std.proofs.lemmas.Option.{none-some}
use Rattle.indexmap.specs.IndexMap.{get, insert_entry, values}
use Rattle.indexmap.proofs.CallerLemmas.{insert_entry-new}
use Rattle.fir_base.specs.Lists.{Distinct}
use Rattle.fir_base.proofs.Twins.{distinct_more}
use Rattle.fir_ast.specs.Statements.{PlacedName}
use Rattle.fir_meaning.specs.Components.{Declaration, Declarations, find}
use Rattle.fir_names.specs.declared.declaration.Component.{Component as ComponentOfCode}
use Rattle.fir_names.specs.declared.declaration.Declaration.{Declaration as Entry}
use Rattle.fir_names.specs.declared.names.Names.{Names}
use Rattle.fir_names.specs.working.Numbered.{component_of}
use Rattle.fir_names.specs.working.Tabulated.{entry_at, entry_count, entry_of, entries_from, entry_named, Tabulates}
use Rattle.fir_names.proofs.LookUps.{or_cond}
use Rattle.fir_names.proofs.TableEntries.{length_entries, entries_more, entry_last, found_name, not_entered}

-- the table has as many entries as there are declarations
pub table_length : (modules : List PlacedName) (names : Names) (ds : Declarations) → Tabulates modules names ds → entry_count names ≡ length ds
table_length modules names ds t =
    sym (length-map names.declarations.entries (λ e. e.1)) ∙ ap length t.in_order ∙ length_entries modules 0 ds

within_items : (es : List Entry) (k : ℕ) (e : Entry) → slice_get es k ≡ Some e → k < length es
within_items [] k e h = absurd (none-some e h)
within_items (x ∷ es) zero e h = omega arith
within_items (x ∷ es) (suc k) e h = let more = within_items es k e h in omega arith

-- where an entry stands, so many stand before it
pub entry_within : (names : Names) (k : ℕ) (e : Entry) → entry_at names k ≡ Some e → k < entry_count names
entry_within names k e h =
    let within = within_items (values names.declarations) k e h in
    omega (arith, within, length-map names.declarations.entries (λ e. e.1))

-- what is noted of expressions is no matter
pub tabulates_noted : (modules : List PlacedName) (names : Names) (ds : Declarations) (noted : Vec ℕ Global) → Tabulates modules names ds
    → Tabulates modules (record names { noted = noted }) ds
tabulates_noted modules names ds noted t = record { in_order = t.in_order; by_name = t.by_name; once = t.once }

-- the entry that the code makes
pub entry_by : (modules : List PlacedName) (d : Declaration) (n : PlacedName) (c : ComponentOfCode) (position count depth : ℕ) → d.named ≡ n
    → c ≡ component_of modules d.component → position ≡ count → depth ≡ d.depth
    → ◌≡◌ {A = Entry} (record { place = n.place; component = c; position = position; depth = depth }) (entry_of modules count d)
entry_by modules d n c position count depth named component at within = cc

-- whether two keys spell one name
abbrev pub same_key : Vec ℕ Global → Vec ℕ Global → Bool
same_key a b = bytes_eq a.items b.items

abbrev found_in : List (Vec ℕ Global × Entry) → List ℕ → Option Entry
found_in entries n = lookup (λ known. bytes_eq n known.items) entries

-- what is found under a name with one entry more
found_last : (entries : List (Vec ℕ Global × Entry)) (key : Vec ℕ Global) (e : Entry) (n : List ℕ)
    → found_in (entries ++ (key, e) ∷ []) n ≡ option_or (found_in entries n) (cond (bytes_eq n key.items) (Some e) None)
found_last [] key e n = refl
found_last (x ∷ entries) key e n =
    ap (cond (bytes_eq n x.0.items) (Some x.1)) (found_last entries key e n)
    ∙ or_cond (bytes_eq n x.0.items) x.1 (found_in entries n) (cond (bytes_eq n key.items) (Some e) None)

pub tabulates_more : (modules : List PlacedName) (old new : Names) (ds : Declarations) (d : Declaration) (key : Vec ℕ Global) (e : Entry)
    → new.declarations.entries ≡ insert_entry same_key old.declarations.entries key e → key.items ≡ d.named.name
    → e ≡ entry_of modules (entry_count old) d → find ds d.named.name ≡ None → Tabulates modules old ds → Tabulates modules new (ds ++ d ∷ [])
tabulates_more modules old new ds d key e inserted named entry none t =
    let is : e ≡ entry_of modules (length ds) d = entry ∙ ap (λ k. entry_of modules k d) (table_length modules old ds t) in
    let absent : get same_key old.declarations key ≡ None =
    t.by_name key.items ∙ not_entered modules 0 ds key.items (ap (find ds) named ∙ none) in
    let grown : new.declarations.entries ≡ old.declarations.entries ++ (key, e) ∷ [] =
    inserted ∙ insert_entry-new same_key old.declarations key e absent in
    let values : List (Vec ℕ Global × Entry) → List Entry = map (λ x. x.1) in
    record {
      in_order =
          ap values grown ∙ map-append (λ x. x.1) old.declarations.entries ((key, e) ∷ [])
          ∙ ap (λ front. front ++ e ∷ []) t.in_order ∙ ap (λ last. entries_from modules 0 ds ++ last ∷ []) is
          ∙ sym (entries_more modules 0 (length ds) ds d (omega arith));
      by_name = λ n.
          let here : bytes_eq n key.items ≡ bytes_eq d.named.name n =
          nat_list_eq_equiv.symm n key.items ∙ ap (λ m. bytes_eq m n) named in
          ap (λ entries. found_in entries n) grown ∙ found_last old.declarations.entries key e n
          ∙ ap (λ o. option_or o (cond (bytes_eq n key.items) (Some e) None)) (t.by_name n)
          ∙ ap (λ b. option_or (entry_named modules 0 ds n) (cond b (Some e) None)) here
          ∙ ap (λ x. option_or (entry_named modules 0 ds n) (cond (bytes_eq d.named.name n) (Some x) None)) is
          ∙ sym (entry_last modules 0 (length ds) ds d n (omega arith));
      once =
          subst Distinct (sym (map-append (λ (x : Declaration). x.named.name) ds (d ∷ [])))
          (distinct_more (map (λ (x : Declaration). x.named.name) ds) d.named.name t.once (λ m. found_name ds d.named.name m none));
    }
