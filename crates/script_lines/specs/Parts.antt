-- Parts of a line, by their forms.
use Rattle.std.specs.Prelude.{ℕ, List, map, Option, Some, None, if◌then◌else◌}
use Rattle.std.specs.Str.{is_utf8}
use Rattle.ri_base.specs.Ascii.{lower}
use Rattle.ri_base.specs.Text.{is_docno, is_name}

abbrev pub docno_of : List ℕ → Option (List ℕ)
docno_of text = if is_docno text then Some text else None

-- a name is read without case
abbrev pub name_of : List ℕ → Option (List ℕ)
name_of text = if is_name (map lower text) then Some (map lower text) else None

-- a query or an expression is UTF-8
abbrev pub text_of : List ℕ → Option (List ℕ)
text_of text = if is_utf8 text then Some text else None
