-- The leaves of members one by one.
use Rattle.std.proofs.Common.{◌≡◌, ℕ, zero, suc, ◌+◌, ◌<◌, ◌≤◌, List, [], ◌∷◌, ◌++◌, refl, sym, ap, ◌∙◌, subst, zero-add, arith}
use Rattle.fir_ast.specs.Types.{DataType}
use Rattle.fir_meaning.specs.SharedLeaves.{shared_count, shared_field_count}
use Rattle.fir_meaning.specs.TypeLeaves.{field_count, leaf_count}
use Rattle.fir_type_table.specs.declared.entry.Member.{Member}
use Rattle.fir_type_table.specs.working.Tables.{member_fields, type_at}
use Rattle.fir_width.specs.declared.counted.Counted.{Counted}
use Rattle.fir_width.specs.declared.counted.Counted.TheVariants.{Each, Shared}
use Rattle.fir_width.specs.working.CountedLeaves.{count_all, count_of}
use Rattle.fir_width.specs.working.FieldsAt.{HasFieldAt}

module _ (ts : List DataType) where
  -- they are those of the fields
  pub all_leaves : (ms : List Member) → count_all Each ts ms ≡ field_count (member_fields ts ms)
  all_leaves [] = refl
  all_leaves (m ∷ ms) = ap (λ n. leaf_count (type_at ts m.ty.number) + n) (all_leaves ms)

  pub all_shared : (ms : List Member) → count_all Shared ts ms ≡ shared_field_count (member_fields ts ms)
  all_shared [] = refl
  all_shared (m ∷ ms) = ap (λ n. shared_count (type_at ts m.ty.number) + n) (all_shared ms)

  pub count_append : (by : Counted) (ms ns : List Member) → count_all by ts (ms ++ ns) ≡ count_all by ts ms + count_all by ts ns
  count_append by [] ns = sym (zero-add (count_all by ts ns))
  count_append by (m ∷ ms) ns = omega (arith, count_append by ms ns)

  module _ (by : Counted) where
    abbrev pub own : Member → ℕ
    own m = count_of by (type_at ts m.ty.number)

    -- a member stands behind others, and between them some without leaves
    pub record StandsBehind (done left before : List Member) (m : Member) (rest : List Member) : Type 0 where
      pub between : List Member
      pub split : left ≡ between ++ m ∷ rest
      pub none : count_all by ts between ≡ 0
      pub joined : before ≡ done ++ between

    -- so does a member with leaves behind others that have as many leaves as stand before it
    pub stands_behind : (done left before : List Member) (m : Member) (rest : List Member) → done ++ left ≡ before ++ m ∷ rest
        → count_all by ts done ≡ count_all by ts before → 0 < own m → StandsBehind done left before m rest
    stands_behind [] left before m rest split counted has = record { between = before; split = split; none = sym counted; joined = refl }
    stands_behind (d ∷ done) left [] m rest split counted has =
        let same : d ≡ m = cc in
        absurd (omega (arith, counted, subst (λ (n : Member). 0 < own n) (sym same) has))
    stands_behind (d ∷ done) left (b ∷ before) m rest split counted has =
        let same : d ≡ b = cc in
        one_more d b done left before m rest same (stands_behind done left before m rest (cc) (omega (arith, counted, ap own same)) has)
      where
        one_more : (d b : Member) (done left before : List Member) (m : Member) (rest : List Member) → d ≡ b → StandsBehind done left before m rest
            → StandsBehind (d ∷ done) left (b ∷ before) m rest
        one_more d b done left before m rest same r =
            record { between = r.between; split = r.split; none = r.none; joined = ap (λ x. x ∷ before) (sym same) ∙ ap (λ l. d ∷ l) r.joined }

    -- those of one are among those of all
    pub within_all : (ms before : List Member) (m : Member) (rest : List Member) → ms ≡ before ++ m ∷ rest
        → count_all by ts before + own m ≤ count_all by ts ms
    within_all ms before m rest split = omega (arith, ap (count_all by ts) split, count_append by before (m ∷ rest))

    -- members with leaves have a first one
    pub first_with_leaves : (ms : List Member) → 0 < count_all by ts ms → HasFieldAt by ts ms 0
    first_with_leaves [] some = absurd (omega arith)
    first_with_leaves (m ∷ ms) some = first (own m) refl (first_with_leaves ms)
      where
        first : (n : ℕ) → own m ≡ n → (0 < count_all by ts ms → HasFieldAt by ts ms 0) → HasFieldAt by ts (m ∷ ms) 0
        first zero none others =
            let r = others (omega (arith, none, some)) in
            record {
              before = m ∷ r.before;
              member = r.member;
              rest = r.rest;
              split = ap (λ l. m ∷ l) r.split;
              counted = omega (arith, none, r.counted);
              has_leaves = r.has_leaves;
            }
        first (suc n) is others = record { before = []; member = m; rest = ms; split = refl; counted = refl; has_leaves = omega (arith, is) }
