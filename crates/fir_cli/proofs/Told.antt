-- What a told content says of the bytes that were read.
use Rattle.std.proofs.Common.{◌≡◌, ℕ, ◌<◌, ◌≤◌, List, length, Some, IfSome, subst, arith}
use Rattle.fir_cli.specs.Outside.{Outside, IsRead, Tells, TellsTooMuch, limit}

-- a told content is not short and too long
abbrev pub IsTooLong : Outside → List ℕ → Type 0
IsTooLong before name = IfSome (before.files.told name) (λ content. limit < length content)

pub not_short : (before : Outside) (name bytes : List ℕ) → IsTooLong before name → Tells before name bytes → ⊥
not_short before name bytes long tells =
    let l : limit < length bytes = subst (λ o. IfSome o (λ content. limit < length content)) tells.told long in
    let short : length bytes ≤ limit = tells.short in
    omega arith

-- of a told content the bytes that were read are all
pub read_is : (before : Outside) (name bytes read : List ℕ) → before.files.told name ≡ Some bytes → IsRead name before read → read ≡ bytes
read_is before name bytes read told h = subst (λ o. IfSome o (λ content. read ≡ content)) told h.told

pub not_too_much : (before : Outside) (name read : List ℕ) → IsRead name before read → TellsTooMuch before name → ⊥
not_too_much before name read h much =
    let short : length much.bytes ≤ limit = subst (λ x. length x ≤ limit) (read_is before name much.bytes read much.told h) h.short in
    let long : limit < length much.bytes = much.long in
    omega arith
