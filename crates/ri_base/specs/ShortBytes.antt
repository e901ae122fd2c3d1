-- Where short bytes are kept. No public clause cites this module.
use Rattle.std.specs.Prelude.{ℕ, ◌≤◌, List, take}
use Rattle.ri_base.specs.declared.short_bytes.Kept.{Kept}
use Rattle.ri_base.specs.declared.short_bytes.Kept.TheVariants.{Inline, Boxed}
use Rattle.ri_base.specs.declared.short_bytes.TheConstants.{INLINE_BYTES}

abbrev pub kept_bytes : Kept → List ℕ
kept_bytes (Inline n bytes) = take n bytes
kept_bytes (Boxed b) = b.value.items

-- the number of those that are kept inline is at most the places
abbrev pub FitsInline : Kept → Type 0
FitsInline (Inline n bytes) = n ≤ INLINE_BYTES
FitsInline (Boxed b) = Unit {0}
