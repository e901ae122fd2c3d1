-- The form of scripts.
use Rattle.std.proofs.Common.{ℕ, zero, suc, ◌≡◌, ◌<◌, ◌≤◌, ◌+◌, Bool, true, false, List, [], ◌∷◌, ◌++◌, length, take, drop, refl, sym, ap, ◌∙◌, arith, subst, length-append, length-drop, length-take, add-zero}
use Rattle.std.specs.Prelude.{nat_lt}
use Rattle.std.specs.List.{position_or_len}
use Rattle.std.proofs.lemmas.Bool.{le-ltb, lt-ltb, ltb-false, ltb-true}
use Rattle.std.proofs.Math.Seq.{drop-append_seam, take-append_seam}
use Rattle.std.proofs.lemmas.List.{drop_all, take-append-drop, take_all}
use Rattle.trec_reader.specs.Read.{read}
use Rattle.line_reader.specs.Form.{IsLine}
use Rattle.line_reader.specs.Lines.{behind_line, is_feed, is_too_long, line}
use Rattle.line_reader.specs.declared.line.TheConstants.{LINE_BYTES}
use Rattle.script_lines.specs.Asked.{asked}
use Rattle.script_lines.specs.declared.asked.Asked.{Asked}
use Rattle.script_lines.specs.declared.asked.Asked.TheVariants as asks
use Rattle.session_events.specs.declared.event.Event.TheVariants as happens
use Rattle.script_reader.specs.Items.{found_items, items_at, said, short_items}
use Rattle.script_reader.specs.State.{line_items}
use Rattle.script_reader.specs.declared.item.Item.{Item}
use Rattle.script_reader.specs.declared.item.Item.TheVariants.{Event, Unread}
use Rattle.script_reader.specs.declared.item.Unread.TheVariants.{BadEvent, LineTooLong, ShortAdd}
use Rattle.script_reader.proofs.ItemLemmas.{items_end, items_line}
use Rattle.script_reader.specs.Form.{Asks, IsScript, offset_behind}
use Rattle.script_reader.specs.Form.IsScript.{at_end, ends, empty, unknown, too_long, one, add, short_add}
use Rattle.line_reader.proofs.LineForm.{line_every, line_less, line_only, line_some}

-- a line takes a byte at least
shorter : (b : ℕ) (bytes : List ℕ) → length (behind_line (b ∷ bytes)) ≤ length bytes
unfolding behind_line
shorter b bytes = omega (arith, length-drop (position_or_len is_feed (b ∷ bytes) + 1) (b ∷ bytes))

offset_fits : (offset b : ℕ) (bytes : List ℕ) → offset_behind offset (b ∷ bytes) (behind_line (b ∷ bytes)) + length (behind_line (b ∷ bytes)) ≡ offset + length (b ∷ bytes)
offset_fits offset b bytes = let less = shorter b bytes in omega (arith, less)

-- THE ITEMS ARE OF THE FORM

-- what `said` says where an `add` stands
added : (offset : ℕ) (bytes rest : List ℕ) (n : ℕ) → length rest ≤ length bytes → ((k : ℕ) (xs : List ℕ) → length xs ≤ length rest → IsScript k xs (items_at k xs)) → Asks (asks.Add n) bytes rest
    → IsScript offset bytes (found_items (read (take n rest)) ++ (short_items offset n rest ++ items_at (offset_behind offset bytes rest + n) (drop n rest)))
added offset bytes rest n less further a = by (nat_lt (length rest) n) refl
  where
    by : (v : Bool) → nat_lt (length rest) n ≡ v → IsScript offset bytes (found_items (read (take n rest)) ++ (short_items offset n rest ++ items_at (offset_behind offset bytes rest + n) (drop n rest)))
    by true e =
        let lt = ltb-true (length rest) n e in
        let all : take n rest ≡ rest = take_all n rest (omega (arith, lt)) in
        let none : drop n rest ≡ [] = drop_all n rest (omega (arith, lt)) in
        let end : items_at (offset_behind offset bytes rest + n) (drop n rest) ≡ Event happens.End ∷ [] = ap (items_at (offset_behind offset bytes rest + n)) none ∙ items_end (offset_behind offset bytes rest + n) in
        let short : short_items offset n rest ≡ Unread ShortAdd offset ∷ [] = rw e refl in
        let P : List Item → Type 0 = λ items. IsScript offset bytes items in
        let whole : found_items (read rest) ++ Unread ShortAdd offset ∷ Event happens.End ∷ [] ≡ found_items (read (take n rest)) ++ (short_items offset n rest ++ items_at (offset_behind offset bytes rest + n) (drop n rest)) = rw (short, all, end) refl in
        subst P whole (short_add offset n bytes rest a lt)
    by false e =
        let le = ltb-false (length rest) n e in
        let len : n ≡ length (take n rest) = omega (arith, length-take n rest, le) in
        let A : ℕ → Type 0 = λ m. Asks (asks.Add m) bytes rest in
        let there : offset_behind offset bytes (drop n rest) ≡ offset_behind offset bytes rest + n = omega (arith, length-drop n rest, le, less) in
        let short : short_items offset n rest ≡ [] = rw e refl in
        let P : List Item → Type 0 = λ items. IsScript offset bytes items in
        let whole : found_items (read (take n rest)) ++ items_at (offset_behind offset bytes (drop n rest)) (drop n rest) ≡ found_items (read (take n rest)) ++ (short_items offset n rest ++ items_at (offset_behind offset bytes rest + n) (drop n rest)) = rw (short, there) refl in
        subst P whole (add offset bytes rest (take n rest) (drop n rest) _ (subst A len a) (sym (take-append-drop n rest)) (further (offset_behind offset bytes (drop n rest)) (drop n rest) (omega (arith, length-drop n rest))))

step : (offset b : ℕ) (bytes : List ℕ) → ((k : ℕ) (xs : List ℕ) → length xs ≤ length bytes → IsScript k xs (items_at k xs)) → IsScript offset (b ∷ bytes) (items_at offset (b ∷ bytes))
step offset b bytes further =
    let P : List Item → Type 0 = λ items. IsScript offset (b ∷ bytes) items in
    subst P (sym (items_line offset (offset_behind offset (b ∷ bytes) (behind_line (b ∷ bytes))) b bytes (offset_fits offset b bytes))) (by (is_too_long (line (b ∷ bytes))) refl)
  where
    next : IsScript (offset_behind offset (b ∷ bytes) (behind_line (b ∷ bytes))) (behind_line (b ∷ bytes)) (items_at (offset_behind offset (b ∷ bytes) (behind_line (b ∷ bytes))) (behind_line (b ∷ bytes)))
    next = further (offset_behind offset (b ∷ bytes) (behind_line (b ∷ bytes))) (behind_line (b ∷ bytes)) (shorter b bytes)

    here : items_at (offset_behind offset (b ∷ bytes) (behind_line (b ∷ bytes))) (behind_line (b ∷ bytes)) ≡ items_at (offset_behind offset (b ∷ bytes) (behind_line (b ∷ bytes)) + 0) (behind_line (b ∷ bytes))
    here = ap (λ k. items_at k (behind_line (b ∷ bytes))) (sym (add-zero (offset_behind offset (b ∷ bytes) (behind_line (b ∷ bytes)))))

    asks_for : (a : Asked) → is_too_long (line (b ∷ bytes)) ≡ false → asked (line (b ∷ bytes)) ≡ a → Asks a (b ∷ bytes) (behind_line (b ∷ bytes))
    asks_for a e h = record { text = line (b ∷ bytes); line = line_only (b ∷ bytes) (omega arith); short = ltb-false LINE_BYTES (length (line (b ∷ bytes))) e; says = h }

    said_so : (a : Asked) → is_too_long (line (b ∷ bytes)) ≡ false → asked (line (b ∷ bytes)) ≡ a → IsScript offset (b ∷ bytes) (said a offset (behind_line (b ∷ bytes)) (λ n. items_at (offset_behind offset (b ∷ bytes) (behind_line (b ∷ bytes)) + n) (drop n (behind_line (b ∷ bytes)))))
    said_so asks.Nothing e h = let P : List Item → Type 0 = λ items. IsScript offset (b ∷ bytes) items in subst P here (empty offset (b ∷ bytes) (behind_line (b ∷ bytes)) _ (asks_for asks.Nothing e h) next)
    said_so asks.Unknown e h = let P : List Item → Type 0 = λ items. IsScript offset (b ∷ bytes) (Unread BadEvent offset ∷ items) in subst P here (unknown offset (b ∷ bytes) (behind_line (b ∷ bytes)) _ (asks_for asks.Unknown e h) next)
    said_so (asks.Event x) e h = let P : List Item → Type 0 = λ items. IsScript offset (b ∷ bytes) (Event x ∷ items) in subst P here (one offset x (b ∷ bytes) (behind_line (b ∷ bytes)) _ (asks_for (asks.Event x) e h) next)
    said_so (asks.Add n) e h = added offset (b ∷ bytes) (behind_line (b ∷ bytes)) n (omega (arith, shorter b bytes)) (λ k xs le. further k xs (omega (arith, le, shorter b bytes))) (asks_for (asks.Add n) e h)
    said_so asks.End e h = ends offset (b ∷ bytes) (behind_line (b ∷ bytes)) (asks_for asks.End e h)

    by : (v : Bool) → is_too_long (line (b ∷ bytes)) ≡ v → IsScript offset (b ∷ bytes) (line_items (is_too_long (line (b ∷ bytes))) (line (b ∷ bytes)) offset (offset_behind offset (b ∷ bytes) (behind_line (b ∷ bytes))) (behind_line (b ∷ bytes)))
    by true e = rw e (too_long offset (line (b ∷ bytes)) (b ∷ bytes) (behind_line (b ∷ bytes)) _ (line_only (b ∷ bytes) (omega arith)) (ltb-true LINE_BYTES (length (line (b ∷ bytes))) e) next)
    by false e = rw e (said_so (asked (line (b ∷ bytes))) e refl)

within : (n offset : ℕ) (bytes : List ℕ) → length bytes ≤ n → IsScript offset bytes (items_at offset bytes)
within n offset [] le = let P : List Item → Type 0 = λ items. IsScript offset [] items in subst P (sym (items_end offset)) (at_end offset)
within zero offset (b ∷ bytes) le = absurd (omega arith)
within (suc n) offset (b ∷ bytes) le = step offset b bytes (λ k xs less. within n k xs (omega (arith, le, less)))

pub script_only : (offset : ℕ) (bytes : List ℕ) → IsScript offset bytes (items_at offset bytes)
script_only offset bytes = within (length bytes) offset bytes (omega arith)

-- NO OTHERS ARE

-- what a line asks for decides the items
asks_items : (a : Asked) (offset : ℕ) (bytes rest : List ℕ) → Asks a bytes rest → items_at offset bytes ≡ said a offset rest (λ n. items_at (offset_behind offset bytes rest + n) (drop n rest))
asks_items a offset [] rest x = absurd (let some = line_some x.text [] rest x.line in omega (arith, some))
asks_items a offset (b ∷ bytes) rest x =
    let is = line_every x.text (b ∷ bytes) rest x.line in
    let short : is_too_long (line (b ∷ bytes)) ≡ false = (let le : length (line (b ∷ bytes)) ≤ LINE_BYTES = omega (arith, x.short, ap length is.0) in le-ltb LINE_BYTES (length (line (b ∷ bytes))) le) in
    let says : asked (line (b ∷ bytes)) ≡ a = ap asked (sym is.0) ∙ x.says in
    let line_is : items_at offset (b ∷ bytes) ≡ said a offset (behind_line (b ∷ bytes)) (λ n. items_at (offset_behind offset (b ∷ bytes) (behind_line (b ∷ bytes)) + n) (drop n (behind_line (b ∷ bytes)))) =
    items_line offset (offset_behind offset (b ∷ bytes) (behind_line (b ∷ bytes))) b bytes (offset_fits offset b bytes) ∙ rw (short, says) refl in
    line_is ∙ ap (λ r. said a offset r (λ n. items_at (offset_behind offset (b ∷ bytes) r + n) (drop n r))) (sym is.1)

long_items : (offset : ℕ) (text bytes rest : List ℕ) → IsLine text bytes rest → LINE_BYTES < length text → items_at offset bytes ≡ Unread LineTooLong offset ∷ items_at (offset_behind offset bytes rest) rest
long_items offset text [] rest x long = absurd (let some = line_some text [] rest x in omega (arith, some))
long_items offset text (b ∷ bytes) rest x long =
    let is = line_every text (b ∷ bytes) rest x in
    let yes : is_too_long (line (b ∷ bytes)) ≡ true = lt-ltb LINE_BYTES (length (line (b ∷ bytes))) (omega (arith, long, ap length is.0)) in
    let line_is : items_at offset (b ∷ bytes) ≡ Unread LineTooLong offset ∷ items_at (offset_behind offset (b ∷ bytes) (behind_line (b ∷ bytes))) (behind_line (b ∷ bytes)) =
    items_line offset (offset_behind offset (b ∷ bytes) (behind_line (b ∷ bytes))) b bytes (offset_fits offset b bytes) ∙ rw yes refl in
    line_is ∙ ap (λ r. Unread LineTooLong offset ∷ items_at (offset_behind offset (b ∷ bytes) r) r) (sym is.1)

zero_behind : (k : ℕ) (rest : List ℕ) → items_at (k + 0) (drop 0 rest) ≡ items_at k rest
zero_behind k rest = ap (λ i. items_at i rest) (add-zero k)

pub script_every : (offset : ℕ) (bytes : List ℕ) (found : List Item) → IsScript offset bytes found → found ≡ items_at offset bytes
script_every offset bytes found (at_end _) = sym (items_end offset)
script_every offset bytes found (ends _ _ rest a) = sym (asks_items asks.End offset bytes rest a)
script_every offset bytes found (empty _ _ rest items a further) = script_every _ rest items further ∙ sym (zero_behind (offset_behind offset bytes rest) rest) ∙ sym (asks_items asks.Nothing offset bytes rest a)
script_every offset bytes found (unknown _ _ rest items a further) = ap (λ xs. Unread BadEvent offset ∷ xs) (script_every _ rest items further ∙ sym (zero_behind (offset_behind offset bytes rest) rest)) ∙ sym (asks_items asks.Unknown offset bytes rest a)
script_every offset bytes found (too_long _ text _ rest items x long further) = ap (λ xs. Unread LineTooLong offset ∷ xs) (script_every _ rest items further) ∙ sym (long_items offset text bytes rest x long)
script_every offset bytes found (one _ e _ rest items a further) = ap (λ xs. Event e ∷ xs) (script_every _ rest items further ∙ sym (zero_behind (offset_behind offset bytes rest) rest)) ∙ sym (asks_items (asks.Event e) offset bytes rest a)
script_every offset bytes found (add _ _ behind block rest items a e further) =
    let front : take (length block) behind ≡ block = ap (take (length block)) e ∙ take-append_seam block rest in
    let back : drop (length block) behind ≡ rest = ap (drop (length block)) e ∙ drop-append_seam block rest in
    let count = ap length e in
    let counts = length-append block rest in
    let whole : nat_lt (length behind) (length block) ≡ false = le-ltb (length behind) (length block) (omega (arith, count, counts)) in
    let short : short_items offset (length block) behind ≡ [] = rw whole refl in
    let there : offset_behind offset bytes behind + length block ≡ offset_behind offset bytes rest = omega (arith, count, counts, line_less a.text bytes behind a.line) in
    let said_is : found_items (read (take (length block) behind)) ++ (short_items offset (length block) behind ++ items_at (offset_behind offset bytes behind + length block) (drop (length block) behind)) ≡ found_items (read block) ++ items_at (offset_behind offset bytes rest) rest =
    ap (λ xs. found_items (read xs) ++ (short_items offset (length block) behind ++ items_at (offset_behind offset bytes behind + length block) (drop (length block) behind))) front
    ∙ ap (λ xs. found_items (read block) ++ (xs ++ items_at (offset_behind offset bytes behind + length block) (drop (length block) behind))) short
    ∙ ap (λ k. found_items (read block) ++ items_at k (drop (length block) behind)) there
    ∙ ap (λ xs. found_items (read block) ++ items_at (offset_behind offset bytes rest) xs) back in
    ap (λ xs. found_items (read block) ++ xs) (script_every _ rest items further) ∙ sym said_is ∙ sym (asks_items (asks.Add (length block)) offset bytes behind a)
script_every offset bytes found (short_add _ n _ block a lt) =
    let front : take n block ≡ block = take_all n block (omega (arith, lt)) in
    let back : drop n block ≡ [] = drop_all n block (omega (arith, lt)) in
    let fewer : nat_lt (length block) n ≡ true = lt-ltb (length block) n lt in
    let short : short_items offset n block ≡ Unread ShortAdd offset ∷ [] = rw fewer refl in
    let said_is : found_items (read (take n block)) ++ (short_items offset n block ++ items_at (offset_behind offset bytes block + n) (drop n block)) ≡ found_items (read block) ++ Unread ShortAdd offset ∷ Event happens.End ∷ [] =
    ap (λ xs. found_items (read xs) ++ (short_items offset n block ++ items_at (offset_behind offset bytes block + n) (drop n block))) front
    ∙ ap (λ xs. found_items (read block) ++ (xs ++ items_at (offset_behind offset bytes block + n) (drop n block))) short
    ∙ ap (λ xs. found_items (read block) ++ Unread ShortAdd offset ∷ xs) (ap (items_at (offset_behind offset bytes block + n)) back ∙ items_end (offset_behind offset bytes block + n)) in
    sym said_is ∙ sym (asks_items (asks.Add n) offset bytes block a)
