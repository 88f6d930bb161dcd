-- What the code has noted of a reference: the type that it reaches, and the lengths of the vectors in which its indices pick.
use Rattle.std.proofs.Common.{◌≡◌, ℕ, List, [], ◌∷◌, map, Option, Some, None, refl, sym, ap, ◌∙◌}
use Rattle.std.specs.Prelude.{option_map}
use Rattle.std.proofs.lemmas.Option.{same_Some, none-some}
use Rattle.fir_ast.specs.Types.{DataType}
use Rattle.fir_ast.specs.Statements.{SinkReference}
use Rattle.fir_meaning.specs.LeafPaths.{named}
use Rattle.fir_meaning.specs.TypedScopes.{Known, TypedScope, known}
use Rattle.fir_meaning.specs.Reaching.{Reached, known_reached}
use Rattle.fir_meaning.specs.ExpressionTypes.{reaching}
use Rattle.fir_meaning.specs.working.WellTyped.{Reaches}
use Rattle.fir_meaning.proofs.FoundTypes.{found_sink}
use Rattle.fir_types.specs.declared.note.Pick.{Pick as PickOfCode}
use Rattle.fir_types.specs.declared.note.LeafRange.{LeafRange as RangeOfCode}
use Rattle.fir_types.specs.working.Seen.{found_type}
use Rattle.fir_types.specs.working.Notes.{Pick, LeafRange, of_reference, range_where, range_behind, position_of, whole_range, known_range, root_range, reference_note}
use Rattle.fir_types.specs.working.Noted.{pick_seen, range_seen, saturated_pick, saturated_range, saturated_note}
use Rattle.fir_infer_resets.specs.working.Meets.{IsRange}
use Rattle.fir_infer_resets.specs.working.JoinedSides.{pick_lengths}
use Rattle.fir_reset.proofs.ReferencePaths.{lengths_along, range_is}

-- what is known under the name
pub record IsKnownAs (scope : TypedScope) (n : List ℕ) (r : Reached) : Type 0 where
  pub found : Known
  pub is : known scope n ≡ Some found
  pub data_type : found.data_type ≡ Some r.data_type

pub known_as : (scope : TypedScope) (n : List ℕ) (r : Reached) → known_reached (known scope n) ≡ Some r → IsKnownAs scope n r
known_as scope n r h = by (known scope n) refl h
  where
    at : (k : Known) (o : Option DataType) → k.data_type ≡ o → known scope n ≡ Some k
        → option_map (λ t. record { data_type = t; flow = k.flow; path = Some (named k.name ∷ []) }) o ≡ Some r → IsKnownAs scope n r
    at k None is found e = absurd (none-some r e)
    at k (Some t) is found e =
        let same : record { data_type = t; flow = k.flow; path = Some (named k.name ∷ []) } ≡ r = same_Some _ r e in
        record { found = k; is = found; data_type = is ∙ ap (λ (x : Reached). Some x.data_type) same }

    by : (o : Option Known) → known scope n ≡ o → known_reached o ≡ Some r → IsKnownAs scope n r
    by None is e = absurd (none-some r e)
    by (Some k) is e = at k k.data_type refl is e

-- the note of a reference that reaches something
pub record IsRangeOf (ts : List DataType) (range : Option RangeOfCode) (begins s : Reached) (sink : SinkReference) : Type 0 where
  pub own : RangeOfCode
  pub is : range ≡ Some own
  pub data_type : found_type ts own.found ≡ s.data_type
  pub lengths : pick_lengths own ≡ lengths_along begins.data_type sink.parts

reference_is : (a b : Option LeafRange) → of_reference a ≡ of_reference b → a ≡ b
reference_is a b e = cc

seen_lengths : (ps : List PickOfCode) → map (λ (p : Pick). p.length) (map pick_seen ps) ≡ map (λ (p : PickOfCode). p.length) ps
seen_lengths [] = refl
seen_lengths (p ∷ ps) = ap (λ l. p.length ∷ l) (seen_lengths ps)

saturated_lengths : (ps : List Pick) → map (λ (p : Pick). p.length) (map saturated_pick ps) ≡ map (λ (p : Pick). p.length) ps
saturated_lengths [] = refl
saturated_lengths (p ∷ ps) = ap (λ l. p.length ∷ l) (saturated_lengths ps)

pub range_of : (ts : List DataType) (scope : TypedScope) (sink : SinkReference) (range : Option RangeOfCode) (s : Reached) (h : Reaches scope sink s) → IsRange ts range scope sink
    → IsRangeOf ts range h.0 s sink
range_of ts scope sink range s h note =
    let begins = h.0 in
    let k = known_as scope sink.name begins h.1 in
    let whole = whole_range (position_of scope sink.name) begins.data_type in
    let there = range_behind whole sink.parts in
    let rooted : root_range scope sink.name ≡ Some whole =
    ap (known_range (position_of scope sink.name)) k.is ∙ ap (option_map (whole_range (position_of scope sink.name))) k.data_type in
    let reached : (reaching scope sink).has ≡ Some s = ap (λ c. c.has) (found_sink scope sink s h) in
    let noted : reference_note scope sink ≡ of_reference (Some there) =
    ap (λ o. of_reference (range_where o (option_map (λ r. range_behind r sink.parts) (root_range scope sink.name)))) reached
    ∙ ap (λ o. of_reference (option_map (λ r. range_behind r sink.parts) o)) rooted in
    let seen : option_map (range_seen ts) range ≡ Some (saturated_range there) =
    reference_is (option_map (range_seen ts) range) (Some (saturated_range there)) (note ∙ ap saturated_note noted) in
    by (range_is scope begins s sink.parts h.2 whole refl).data_type (range_is scope begins s sink.parts h.2 whole refl).lengths range refl seen
  where
    by : (range_behind (whole_range (position_of scope sink.name) h.0.data_type) sink.parts).data_type ≡ s.data_type
        → map (λ (p : Pick). p.length) (range_behind (whole_range (position_of scope sink.name) h.0.data_type) sink.parts).picks ≡ lengths_along h.0.data_type sink.parts
        → (o : Option RangeOfCode) → range ≡ o → option_map (range_seen ts) o ≡ Some (saturated_range (range_behind (whole_range (position_of scope sink.name) h.0.data_type) sink.parts))
        → IsRangeOf ts range h.0 s sink
    by type lengths None is e = absurd (none-some _ e)
    by type lengths (Some own) is e =
        let there = range_behind (whole_range (position_of scope sink.name) h.0.data_type) sink.parts in
        let same : range_seen ts own ≡ saturated_range there = same_Some _ (saturated_range there) e in
        record {
          own = own;
          is = is;
          data_type = ap (λ (r : LeafRange). r.data_type) same ∙ type;
          lengths =
              sym (seen_lengths own.picks.items) ∙ ap (λ (r : LeafRange). map (λ (p : Pick). p.length) r.picks) same ∙ saturated_lengths there.picks ∙ lengths;
        }
