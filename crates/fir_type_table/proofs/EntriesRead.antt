-- What is read of an entry of a table is so of its type.
use Rattle.std.proofs.Common.{◌≡◌, ℕ, ◌<◌, ◌≤◌, List, get_or, subst, Bor, length, refl, sym, ap, ◌∙◌}
use Rattle.std.specs.Prelude.{Option, Some, None, MatchOption, unwrap_or}
use Rattle.std.specs.Slice.{IsItemAt}
use Rattle.std.proofs.lemmas.Option.{slice_get_read, slice_get_past}
use Rattle.fir_ast.specs.Types.{uint}
use Rattle.fir_meaning.specs.TypeLeaves.{leaf_count}
use Rattle.fir_meaning.specs.TypeKinds.{is_passive, is_numeric, is_sized}
use Rattle.fir_meaning.specs.SharedLeaves.{shared_count}
use Rattle.fir_type_table.specs.declared.entry.Entry.{Entry}
use Rattle.fir_type_table.specs.working.Tables.{type_at, made_of, types_of}
use Rattle.fir_type_table.specs.working.Fits.{IsTable}
use Rattle.fir_type_table.specs.working.Saturated.{saturated}
use Rattle.fir_type_table.specs.working.Reads.{IsReadAt, IsPast}
use Rattle.fir_type_table.proofs.TableTypes.{type_held, type_past}

pub read_at : (es : List Entry) (i : ℕ) (e : Entry) → IsTable es → i < length es → e ≡ get_or es i e → IsReadAt es i e
read_at es i e table within at =
    let here = slice_get_read es (length es) i e refl within at in
    let fits = table.each i e here in
    let is : type_at (types_of es) i ≡ made_of (types_of es) e.kind e.members.items =
    ap (λ o. unwrap_or o (uint None)) (type_held es i e here fits.below fits.members_below) in
    record {
      here = here;
      fits = fits;
      type_is = is;
      leaves = fits.leaves ∙ ap (λ t. saturated (leaf_count t)) (sym is);
      shared = fits.shared ∙ ap (λ t. saturated (shared_count t)) (sym is);
      passive = fits.passive ∙ ap is_passive (sym is);
      numeric = fits.numeric ∙ ap is_numeric (sym is);
      sized = fits.sized ∙ ap is_sized (sym is);
    }

pub read_past : (es : List Entry) (i : ℕ) → length es ≤ i → IsPast es i
read_past es i h = record { none = slice_get_past es i h; type_is = type_past es i h }

pub read_by_get : (es items : List Entry) (i : ℕ) (r : Option (Bor Entry)) → IsTable es → items ≡ es → IsItemAt items i r
    → MatchOption r (IsPast es i) (λ e. IsReadAt es i e.now)
read_by_get es items i None table same h = read_past es i (subst (λ (xs : List Entry). length xs ≤ i) same h.3)
read_by_get es items i (Some e) table same h =
    read_at es i e.now table (subst (λ (xs : List Entry). i < length xs) same h.3.0) (subst (λ (xs : List Entry). e.now ≡ get_or xs i e.now) same h.1)
