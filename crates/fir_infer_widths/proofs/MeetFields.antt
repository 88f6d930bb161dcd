-- The fields of a bundle one by one, with what they ask for where they meet a side.
use Rattle.std.proofs.Common.{◌≡◌, ℕ, ◌+◌, ◌<◌, ◌≤◌, ◌^◌, List, [], ◌∷◌, ◌++◌, length, drop, get_or, Bool, true, refl, sym, ap, ◌∙◌, subst, append_assoc, arith}
use Rattle.std.proofs.lemmas.List.{append-nil, drop_more, drop_all}
use Rattle.std.proofs.lemmas.List.Concat.{flat_map-append}
use Rattle.fir_ast.specs.Types.{DataType}
use Rattle.fir_meaning.specs.TypeKinds.{bare, bare_fields}
use Rattle.fir_meaning.specs.TypeLeaves.{turned}
use Rattle.fir_meaning.specs.SharedLeaves.{shared_count}
use Rattle.fir_meaning.specs.WidthExpressions.{Width, Rule}
use Rattle.fir_meaning.specs.WidthRules.{bound}
use Rattle.fir_meaning.specs.SizedTypes.{Sized, SizedFields, no_sized_fields, sized_field, bare_type, bare_type_fields, fields_in, sized_named}
use Rattle.fir_meaning.specs.SizedMatches.{Match, matches, field_matches, where_met}
use Rattle.fir_type_table.specs.declared.entry.Member.{Member}
use Rattle.fir_type_table.specs.working.Saturated.{saturated}
use Rattle.fir_type_table.specs.working.Tables.{type_at, member_fields}
use Rattle.fir_types.specs.declared.found.Found.TheVariants as found
use Rattle.fir_types.proofs.BareTypes.{shown_bare}
use Rattle.fir_infer_widths.specs.declared.arena.Arena.{Arena}
use Rattle.fir_width.specs.declared.side.Side.{Side}
use Rattle.fir_width.specs.working.FlatWidths.{flat, flat_fields}
use Rattle.fir_infer_widths.specs.working.Meetings.{AreFields, asked_by}
use Rattle.fir_infer_widths.specs.working.Numbered.{Keeps}
use Rattle.fir_width.specs.working.StandingWidths.{Stands}
use Rattle.fir_width.specs.working.Sides.{IsSide}
use Rattle.fir_infer_widths.proofs.ArenaGrows.{marks_long}
use Rattle.fir_width.proofs.FlatShapes.{flat_counted}
use Rattle.fir_infer_widths.proofs.RangeSides.{stands_saturated}
use Rattle.fir_width.proofs.StandingWidths.{stands_left, stands_right}

-- what is asked for so far, and the fields that are left, of these members
pub record MetSoFar (ts : List DataType) (meant : List Width) (rules : List Rule) (turn : Bool) (fs : SizedFields) (t : Sized) (left : List Member) (next : ℕ) (new : Arena) : Type 0 where
  pub done : List Match
  pub rest : SizedFields
  pub keeps : Keeps meant (rules ++ asked_by done) new
  pub are : AreFields ts meant next left rest
  pub all : done ++ field_matches turn rest (fields_in t) ≡ field_matches turn fs (fields_in t)

-- whatever the arena means
pub record FieldsMet (ts : List DataType) (old : Arena) (turn : Bool) (first : ℕ) (ms : List Member) (right : Side) (i next : ℕ) (new : Arena) : Type 0 where
  pub met : (meant : List Width) (rules : List Rule) (fs : SizedFields) (t : Sized) → Keeps meant rules old → AreFields ts meant first ms fs
      → IsSide ts meant right t → MetSoFar ts meant rules turn fs t (drop i ms) next new

pub none_met : (ts : List DataType) (old : Arena) (turn : Bool) (first : ℕ) (ms : List Member) (right : Side) → FieldsMet ts old turn first ms right 0 first old
none_met ts old turn first ms right = record {
  met = λ meant rules fs t keeps are side. record {
    done = [];
    rest = fs;
    keeps = subst (λ rs. Keeps meant rs old) (sym (append-nil rules)) keeps;
    are = are;
    all = refl;
  };
}

-- no field is left
nothing_left : (ts : List DataType) (meant : List Width) (turn : Bool) (next : ℕ) (rest : SizedFields) (t : Sized) → AreFields ts meant next [] rest
    → field_matches turn rest (fields_in t) ≡ []
nothing_left ts meant turn next no_sized_fields t are = refl
nothing_left ts meant turn next (sized_field p flip x begins s more) t are = absurd (let e = are.shape in cc)

pub all_met : (ts : List DataType) (old new : Arena) (turn : Bool) (first : ℕ) (ms : List Member) (right : Side) (i next : ℕ) (meant : List Width) (rules : List Rule) (fs : SizedFields) (t : Sized)
    → length ms ≤ i → FieldsMet ts old turn first ms right i next new → Keeps meant rules old → AreFields ts meant first ms fs → IsSide ts meant right t
    → Keeps meant (rules ++ asked_by (field_matches turn fs (fields_in t))) new
all_met ts old new turn first ms right i next meant rules fs t end far keeps are side =
    let so_far = far.met meant rules fs t keeps are side in
    let left : AreFields ts meant next [] so_far.rest = subst (λ l. AreFields ts meant next l so_far.rest) (drop_all i ms end) so_far.are in
    let whole : so_far.done ≡ field_matches turn fs (fields_in t) =
    sym (append-nil so_far.done) ∙ ap (λ l. so_far.done ++ l) (sym (nothing_left ts meant turn next so_far.rest t left)) ∙ so_far.all in
    subst (λ l. Keeps meant (rules ++ asked_by l) new) whole so_far.keeps

-- the first of the fields that are left
record FirstField (ts : List DataType) (meant : List Width) (next : ℕ) (m : Member) (more : List Member) (turn : Bool) (rest : SizedFields) (t : Sized) : Type 0 where
  part : Sized
  others : SizedFields
  is : IsSide ts meant (record { found = found.Type m.ty true; first = next }) part
  are : (behind : ℕ) → behind ≡ saturated (next + saturated (shared_count (type_at ts m.ty.number))) → AreFields ts meant behind more others
  asks : field_matches turn rest (fields_in t) ≡ where_met (λ u. matches (turned turn m.flip) part u) (sized_named m.name (fields_in t)) ++ field_matches turn others (fields_in t)

first_field : (ts : List DataType) (meant : List Width) (next : ℕ) (m : Member) (more : List Member) (turn : Bool) (rest : SizedFields) (t : Sized)
    → length meant < 2 ^ 64 → AreFields ts meant next (m ∷ more) rest → FirstField ts meant next m more turn rest t
first_field ts meant next m more turn no_sized_fields t short are = absurd (let e = are.shape in cc)
first_field ts meant next m more turn (sized_field p flip x begins s others) t short are =
    let e = are.shape in
    let shape : bare_type s ≡ bare (type_at ts m.ty.number) = cc in
    let named : x ≡ m.name = cc in
    let same : flip ≡ m.flip = cc in
    let left : bare_type_fields others ≡ bare_fields (member_fields ts more) = cc in
    let count : length (flat s) ≡ shared_count (type_at ts m.ty.number) = flat_counted s (type_at ts m.ty.number) shape in
    let behind_all : Stands meant (next + shared_count (type_at ts m.ty.number)) (flat_fields others) =
    subst (λ n. Stands meant (next + n) (flat_fields others)) count (stands_right meant next (flat s) (flat_fields others) are.stands) in
    record {
      part = s;
      others = others;
      is = record { shape = shape ∙ sym (shown_bare true (type_at ts m.ty.number)); stands = stands_left meant next (flat s) (flat_fields others) are.stands };
      are = λ behind b. record {
        shape = left;
        stands =
            subst (λ n. Stands meant n (flat_fields others)) (sym b)
            (stands_saturated meant (flat_fields others) next (shared_count (type_at ts m.ty.number)) short behind_all);
      };
      asks = ap (λ f. where_met (λ u. matches (turned turn f) s u) (sized_named x (fields_in t)) ++ field_matches turn others (fields_in t)) same
          ∙ ap (λ y. where_met (λ u. matches (turned turn m.flip) s u) (sized_named y (fields_in t)) ++ field_matches turn others (fields_in t)) named;
    }

-- what the meeting of one field asks for
abbrev pub MeetsField : List DataType → Arena → Arena → Bool → List ℕ → Side → Side → Type 0
MeetsField ts middle new turn x left right =
    (meant : List Width) (rules : List Rule) (s t : Sized) → Keeps meant rules middle → IsSide ts meant left s → IsSide ts meant right t
    → Keeps meant (rules ++ asked_by (where_met (λ u. matches turn s u) (sized_named x (fields_in t)))) new

pub one_met : (ts : List DataType) (old middle new : Arena) (turn way : Bool) (first : ℕ) (ms : List Member) (right : Side) (i next behind : ℕ) (m : Member)
    → FieldsMet ts old turn first ms right i next middle → i < length ms → m ≡ get_or ms i m → way ≡ turned turn m.flip → length middle.written.items < 2 ^ 64
    → behind ≡ saturated (next + saturated (shared_count (type_at ts m.ty.number)))
    → MeetsField ts middle new way m.name (record { found = found.Type m.ty true; first = next }) right
    → FieldsMet ts old turn first ms right (i + 1) behind new
one_met ts old middle new turn way first ms right i next behind m far less here is_way short is_behind meets = record { met = met }
  where
    left_is : drop i ms ≡ m ∷ drop (i + 1) ms
    left_is = drop_more ms i m less ∙ ap (λ x. x ∷ drop (i + 1) ms) (sym here)

    met : (meant : List Width) (rules : List Rule) (fs : SizedFields) (t : Sized) → Keeps meant rules old → AreFields ts meant first ms fs
        → IsSide ts meant right t → MetSoFar ts meant rules turn fs t (drop (i + 1) ms) behind new
    met meant rules fs t keeps are side =
        let so_far = far.met meant rules fs t keeps are side in
        let narrow : length meant < 2 ^ 64 = omega (arith, short, marks_long meant middle.written.items so_far.keeps.marks) in
        let one = first_field ts meant next m (drop (i + 1) ms) turn so_far.rest t narrow (subst (λ l. AreFields ts meant next l so_far.rest) left_is so_far.are) in
        let own : List Match = where_met (λ u. matches (turned turn m.flip) one.part u) (sized_named m.name (fields_in t)) in
        let asked : Keeps meant ((rules ++ asked_by so_far.done) ++ asked_by own) new =
        subst (λ w. Keeps meant ((rules ++ asked_by so_far.done) ++ asked_by (where_met (λ u. matches w one.part u) (sized_named m.name (fields_in t)))) new) is_way
        (meets meant (rules ++ asked_by so_far.done) one.part t so_far.keeps one.is side) in
        let joined : (rules ++ asked_by so_far.done) ++ asked_by own ≡ rules ++ asked_by (so_far.done ++ own) =
        append_assoc rules (asked_by so_far.done) (asked_by own) ∙ ap (λ l. rules ++ l) (sym (flat_map-append (λ (x : Match). bound x.driven x.driver) so_far.done own)) in
        record {
          done = so_far.done ++ own;
          rest = one.others;
          keeps = subst (λ rs. Keeps meant rs new) joined asked;
          are = one.are behind is_behind;
          all = append_assoc so_far.done own (field_matches turn one.others (fields_in t)) ∙ ap (λ l. so_far.done ++ l) (sym one.asks) ∙ so_far.all;
        }
