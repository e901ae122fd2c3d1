-- The items of a script, line by line.
use Rattle.std.proofs.Common.{ℕ, zero, suc, ◌≡◌, ◌<◌, ◌≤◌, ◌+◌, ◌-◌, min, Bool, true, false, List, [], ◌∷◌, ◌++◌, Option, Ok, Err, length, take, drop, refl, sym, ap, subst, ◌∙◌, arith, length-append, length-drop, length-take, append_assoc, add-zero, add-one}
use Rattle.std.specs.Prelude.{Some, None, nat_lt, ◌==◌, is_some, IfSome}
use Rattle.std.specs.Io.KnownBytes.{IsAtEnd, prepend_known}
use Rattle.std.proofs.lemmas.Bool.{le-ltb, lt-ltb, ltb-false, ltb-true}
use Rattle.std.proofs.Math.Seq.{drop-nil}
use Rattle.std.proofs.lemmas.List.{drop_all, take_min, drop-drop}
use Rattle.read_ahead.specs.Ahead.{Ahead}
use Rattle.trec_reader.specs.Read.{behind_space, bounded_document, document_at, document_read, entry, entry_then, offset_of, read, read_rest, with_document}
use Rattle.trec_reader.specs.Documents.{Reading}
use Rattle.trec_reader.specs.Refusal.{Gives, IsRefused, StaysUnlessRead}
use Rattle.trec_reader.specs.declared.document.RawDoc.{RawDoc}
use Rattle.trec_reader.specs.declared.piece.Piece.{Piece}
use Rattle.trec_reader.specs.declared.refusal.TrecRefusal.{TrecRefusal}
use Rattle.trec_reader.specs.declared.refusal.TrecRefusal.TheVariants.{NoDocno, DocnoEmpty, DocnoBad, DocnoLong, DocOpen, NotADoc, DocTooLarge, Read, Ended, Memory}
use Rattle.session_events.specs.Events.{IsSessionEvent, is_end as is_end_event}
use Rattle.script_reader.specs.Held.{IsTextRefusal}
use Rattle.trec_reader.proofs.Shorter.{read_is}
use Rattle.ri_base.specs.Ascii.{is_space}
use Rattle.line_reader.specs.Reads.{GivesLine, HasRead}
use Rattle.line_reader.specs.declared.line.Line.{Line}
use Rattle.std.specs.Option.{option_map}
use Rattle.std.specs.List.{after_first, position_or_len, prefix_len}
use Rattle.line_reader.specs.Lines.{behind_line, is_feed, is_too_long, line}
use Rattle.line_reader.proofs.SkipLemmas.{drop_behind}
use Rattle.script_lines.specs.Asked.{asked}
use Rattle.script_lines.specs.declared.asked.Asked.{Asked}
use Rattle.script_lines.specs.declared.asked.Asked.TheVariants.{Nothing, Unknown, Event, Add, End}
use Rattle.session_events.specs.declared.event.Event.{Event as SomeEvent}
use Rattle.session_events.specs.declared.event.Event.TheVariants as event
use Rattle.script_lines.specs.Table.{IsLineEvent}
use Rattle.script_reader.specs.declared.item.Item.{Item}
use Rattle.script_reader.specs.declared.item.Item.TheVariants as item
use Rattle.script_reader.specs.declared.item.Unread.TheVariants.{BadEvent, LineTooLong, ShortAdd}
use Rattle.script_reader.specs.Items.{document_item, found_items, items_at, items_behind, line_said, said, short_items}
use Rattle.script_reader.specs.State.{added_items, block_items, documents_left, line_items, rest_items, short_of, with_item}

-- items behind so many bytes are those of what remains
items_behind_is : (offset n : ℕ) (bytes : List ℕ) → items_behind offset n bytes ≡ items_at (offset + n) (drop n bytes)
unfolding items_at
items_behind_is offset zero [] = refl
items_behind_is offset (suc n) [] = refl
items_behind_is offset zero (b ∷ bytes) = let e : offset + 0 ≡ offset = omega arith in rw e refl
items_behind_is offset (suc n) (b ∷ bytes) = let e : suc offset + n ≡ offset + suc n = omega arith in items_behind_is (suc offset) n bytes ∙ ap (λ k. items_at k (drop n bytes)) e

-- at the end stands `end`, whatever its offset
pub items_end : (offset : ℕ) → items_at offset [] ≡ item.Event event.End ∷ []
unfolding items_at
items_end offset = refl

pub any_end : (a b : ℕ) → items_at a [] ≡ items_at b []
any_end a b = items_end a ∙ sym (items_end b)

said_same : (a : Asked) (place : ℕ) (behind : List ℕ) (f g : ℕ → List Item) → ((n : ℕ) → f n ≡ g n) → said a place behind f ≡ said a place behind g
said_same Nothing place behind f g same = same 0
said_same Unknown place behind f g same = ap (λ xs. item.Unread BadEvent place ∷ xs) (same 0)
said_same (Event e) place behind f g same = ap (λ xs. item.Event e ∷ xs) (same 0)
said_same (Add n) place behind f g same = ap (λ xs. found_items (read (take n behind)) ++ (short_items place n behind ++ xs)) (same n)
said_same End place behind f g same = refl

line_said_same : (text : List ℕ) (place at : ℕ) (behind : List ℕ) (f : ℕ → List Item) → ((n : ℕ) → f n ≡ items_at (at + n) (drop n behind)) → line_said text place behind f ≡ line_items (is_too_long text) text place at behind
line_said_same text place at behind f same = by (is_too_long text) refl
  where
    by : (v : Bool) → is_too_long text ≡ v → line_said text place behind f ≡ line_items (is_too_long text) text place at behind
    by true e =
        let here : f 0 ≡ items_at at behind = same 0 ∙ ap (λ k. items_at k behind) (add-zero at) in
        rw e (ap (λ xs. item.Unread LineTooLong place ∷ xs) here)
    by false e = rw e (said_same (asked text) place behind f (λ n. items_at (at + n) (drop n behind)) same)

-- where no byte is left an offset doesn't matter
same_or_end : (i j : ℕ) (bytes : List ℕ) → (0 < length bytes → i ≡ j) → items_at i bytes ≡ items_at j bytes
same_or_end i j [] same = any_end i j
same_or_end i j (b ∷ bytes) same = ap (λ k. items_at k (b ∷ bytes)) (same (omega arith))

drop_twice : (n k : ℕ) (xs : List ℕ) → drop (k + n) xs ≡ drop n (drop k xs)
drop_twice n k xs = sym (drop-drop n k xs)

-- behind a line at whose end a LF stands the offset is that of the next byte
further_is : (offset at n : ℕ) (b : ℕ) (bytes : List ℕ) → at + length (behind_line (b ∷ bytes)) ≡ offset + length (b ∷ bytes)
    → items_behind (suc offset) (position_or_len is_feed (b ∷ bytes) + n) bytes ≡ items_at (at + n) (drop n (behind_line (b ∷ bytes)))
unfolding behind_line
further_is offset at n b bytes e =
    let pos = position_or_len is_feed (b ∷ bytes) in
    let rest : drop (pos + n) bytes ≡ drop n (after_first is_feed (b ∷ bytes)) = drop_twice n pos bytes ∙ ap (λ i. drop n (drop i (b ∷ bytes))) (sym (add-one pos)) in
    let few = length-drop (pos + 1) (b ∷ bytes) in
    let few_n = length-drop n (after_first is_feed (b ∷ bytes)) in
    items_behind_is (suc offset) (pos + n) bytes ∙ ap (items_at (suc offset + (pos + n))) rest
    ∙ same_or_end (suc offset + (pos + n)) (at + n) (drop n (after_first is_feed (b ∷ bytes))) (λ some. omega (arith, some, few, few_n, e))

-- the items from a line on
pub items_line : (offset at b : ℕ) (bytes : List ℕ) → at + length (behind_line (b ∷ bytes)) ≡ offset + length (b ∷ bytes)
    → items_at offset (b ∷ bytes) ≡ line_items (is_too_long (line (b ∷ bytes))) (line (b ∷ bytes)) offset at (behind_line (b ∷ bytes))
unfolding items_at
items_line offset at b bytes e = line_said_same (line (b ∷ bytes)) offset at (behind_line (b ∷ bytes)) _ (λ n. further_is offset at n b bytes e)

-- A LINE THAT WAS READ

line_told : (found : Line) (text : List ℕ) (place at : ℕ) (bytes : List ℕ) → HasRead found text bytes → line_items (is_too_long (line bytes)) (line bytes) place at (behind_line bytes) ≡ line_items found.is_too_long text place at (behind_line bytes)
line_told found text place at bytes is = by (is_too_long (line bytes)) refl
  where
    by : (v : Bool) → is_too_long (line bytes) ≡ v → line_items (is_too_long (line bytes)) (line bytes) place at (behind_line bytes) ≡ line_items found.is_too_long text place at (behind_line bytes)
    by true e =
        let long : found.is_too_long ≡ true = is.size ∙ e in
        rw (e, long) refl
    by false e =
        let short : found.is_too_long ≡ false = is.size ∙ e in
        let same : text ≡ line bytes = is.text short in
        rw (e, short, same) refl

at_line : (found : Line) (text : List ℕ) (offset at : ℕ) (bytes : List ℕ) → HasRead found text bytes → at + length (behind_line bytes) ≡ offset + length bytes → items_at offset bytes ≡ line_items found.is_too_long text offset at (behind_line bytes)
at_line found text offset at [] is e = let some = is.some in absurd (omega arith)
at_line found text offset at (b ∷ bytes) is e = items_line offset at b bytes e ∙ line_told found text offset at (b ∷ bytes) is

-- what a line says that was read is what its script says
pub line_given : (found : Line) (text : List ℕ) (passed offset at : ℕ) (old new : Option (List ℕ)) → GivesLine (Some found) text offset old new → option_map (λ xs. at + length xs) new ≡ option_map (λ xs. offset + length xs) old
    → option_map (items_at (offset + passed)) old ≡ option_map (line_items found.is_too_long text (found.place + passed) (at + passed)) new
line_given found text passed offset at None new (place, rest, is) e = rw rest refl
line_given found text passed offset at (Some bytes) new (place, rest, is) e =
    let count : Some (at + length (behind_line bytes)) ≡ Some (offset + length bytes) = ap (option_map (λ xs. at + length xs)) (sym rest) ∙ e in
    let same : at + length (behind_line bytes) ≡ offset + length bytes = cc in
    rw (rest, place) (ap (λ xs. Some xs) (at_line found text (offset + passed) (at + passed) bytes is (omega (arith, same))))

pub end_given : (passed offset at : ℕ) (old new : Option (List ℕ)) → IsAtEnd old → is_some old ≡ is_some new
    → option_map (items_at (offset + passed)) old ≡ option_map (λ _. item.Event event.End ∷ []) new
end_given passed offset at None None ended told = refl
end_given passed offset at None (Some ys) ended told = cc
end_given passed offset at (Some xs) None ended told = cc
end_given passed offset at (Some xs) (Some ys) ended told = rw ended (ap (λ xs. Some xs) (items_end (offset + passed)))

-- what is read of unread bytes is read of those left behind what is ahead
pub unread_is : {A : Type 0} (f : List ℕ → A) (bytes : List ℕ) (left : Option (List ℕ)) → option_map f (prepend_known bytes left) ≡ option_map (λ rest. f (bytes ++ rest)) left
unread_is f bytes None = refl
unread_is f bytes (Some rest) = refl

-- what holds of unread bytes before and after a call, as it is said of what the source has left
over_left : {A : Type 0} (f g : List ℕ → A) (old mid : List ℕ) (left left_now : Option (List ℕ)) → option_map f (prepend_known old left) ≡ option_map g (prepend_known mid left_now)
    → option_map (λ rest. f (old ++ rest)) left ≡ option_map (λ rest. g (mid ++ rest)) left_now
over_left f g old mid left left_now e = sym (unread_is f old left) ∙ e ∙ unread_is g mid left_now

pub map_same : {A : Type 0} (f g : List ℕ → A) (left : Option (List ℕ)) → ((rest : List ℕ) → f rest ≡ g rest) → option_map f left ≡ option_map g left
map_same f g None same = refl
map_same f g (Some rest) same = ap (λ x. Some x) (same rest)

-- SHORT INPUTS

pub short_same : (a m b n : ℕ) → m - a ≡ n - b → nat_lt a m ≡ nat_lt b n
short_same a m b n e = by (nat_lt a m) (nat_lt b n) refl refl
  where
    by : (v w : Bool) → nat_lt a m ≡ v → nat_lt b n ≡ w → nat_lt a m ≡ nat_lt b n
    by true true p q = p ∙ sym q
    by false false p q = p ∙ sym q
    by true false p q = let lt = ltb-true a m p in let le = ltb-false b n q in absurd (omega (arith, lt, le, e))
    by false true p q = let le = ltb-false a m p in let lt = ltb-true b n q in absurd (omega (arith, lt, le, e))

not_zero : (n : ℕ) → (suc n == 0) ≡ false
not_zero n = grind arith

short_some : (place n : ℕ) → short_of place (suc n) ≡ Some (item.Unread ShortAdd place)
short_some place n = rw (not_zero n) refl

nil_of : (xs : List ℕ) → length xs ≡ 0 → xs ≡ []
nil_of [] e = refl
nil_of (x ∷ xs) e = absurd (omega (arith, e))

-- what is skipped
pub rest_skipped : (place m n at now : ℕ) (bytes : List ℕ) → n ≡ m - length bytes → now + n ≡ at + m → rest_items place m at bytes ≡ with_item (short_of place n) (items_at now (drop m bytes))
rest_skipped place m zero at now bytes e f =
    let whole : nat_lt (length bytes) m ≡ false = le-ltb (length bytes) m (omega arith) in
    let at_is : at + m ≡ now = omega (arith, f) in
    let left : rest_items place m at bytes ≡ items_at (at + m) (drop m bytes) = rw whole refl in
    left ∙ ap (λ k. items_at k (drop m bytes)) at_is
rest_skipped place m (suc n) at now bytes e f =
    let fewer : nat_lt (length bytes) m ≡ true = lt-ltb (length bytes) m (omega arith) in
    let none : drop m bytes ≡ [] = drop_all m bytes (omega arith) in
    let left : rest_items place m at bytes ≡ item.Unread ShortAdd place ∷ items_at (at + m) (drop m bytes) = rw fewer refl in
    let ends : items_at (at + m) (drop m bytes) ≡ items_at now (drop m bytes) = ap (items_at (at + m)) none ∙ any_end (at + m) now ∙ sym (ap (items_at now) none) in
    left ∙ ap (λ xs. item.Unread ShortAdd place ∷ xs) ends ∙ sym (ap (λ found. with_item found (items_at now (drop m bytes))) (short_some place n))

-- BYTES OF AN `add`

take_behind : (n : ℕ) (bytes rest : List ℕ) → take n bytes ++ take (n - length bytes) (drop n bytes ++ rest) ≡ take n (bytes ++ rest)
take_behind zero bytes rest = let e : 0 - length bytes ≡ 0 = omega arith in ap (λ k. take k (bytes ++ rest)) e
take_behind (suc n) [] rest = let e : suc n - length {A = ℕ} [] ≡ suc n = omega arith in ap (λ k. take k rest) e
take_behind (suc n) (b ∷ bytes) rest =
    let e : suc n - length (b ∷ bytes) ≡ n - length bytes = omega arith in
    ap (λ k. b ∷ (take n bytes ++ take k (drop n bytes ++ rest))) e ∙ ap (λ xs. b ∷ xs) (take_behind n bytes rest)

pub begun : (place count there missing at now : ℕ) (documents : Ahead) (bytes ahead rest : List ℕ) → there ≡ min count (length bytes) → documents.bytes ≡ take there bytes → documents.offset ≡ 0 → ahead ≡ drop count bytes → missing ≡ count - length bytes → now + missing ≡ at + count
    → block_items place missing documents now (ahead ++ rest) ≡ added_items place count at (bytes ++ rest)
begun place count there missing at now documents bytes ahead rest t b o a m p =
    let front : documents.bytes ≡ take count bytes = b ∙ ap (λ k. take k bytes) t ∙ take_min count bytes in
    let whole : documents.bytes ++ take missing (ahead ++ rest) ≡ take count (bytes ++ rest) = rw (front, a, m) (take_behind count bytes rest) in
    let behind : drop missing (ahead ++ rest) ≡ drop count (bytes ++ rest) = rw (a, m) (drop_behind count bytes rest) in
    let few : missing - length (ahead ++ rest) ≡ count - length (bytes ++ rest) = omega (arith, m, length-append ahead rest, length-append bytes rest, ap length a, length-drop count bytes) in
    let short : nat_lt (length (ahead ++ rest)) missing ≡ nat_lt (length (bytes ++ rest)) count = short_same _ _ _ _ few in
    let none : 0 + length (take count (bytes ++ rest)) ≡ length (take count (bytes ++ rest)) = omega arith in
    rw (whole, behind, short, p, o, none) refl

-- DOCUMENTS OF AN `add`

-- What is known of the bytes of an `add` before and after documents read of them. The lines have `ahead` ahead, the
-- documents have bytes at an offset, so many bytes are missing, and the source has `left` left.
pub record Passed (ahead : List ℕ) (missing at : ℕ) (documents : Ahead) (left : List ℕ) (missing_now now : ℕ) (documents_now : Ahead) (left_now : List ℕ) : Type 0 where
  pub rest : drop missing_now left_now ≡ drop missing left
  pub short : missing_now - length left_now ≡ missing - length left
  pub same_end : documents_now.offset + length (documents_now.bytes ++ take missing_now left_now) ≡ documents.offset + length (documents.bytes ++ take missing left)
  pub order : 0 < missing → ahead ≡ []
  pub forward : documents.offset + length documents.bytes ≤ documents_now.offset + length documents_now.bytes
  pub position : now + (documents.offset + length documents.bytes) ≡ at + (documents_now.offset + length documents_now.bytes)

module _ (ahead : List ℕ) (missing at : ℕ) (documents : Ahead) (left : List ℕ) (missing_now now : ℕ) (documents_now : Ahead) (left_now : List ℕ) (p : Passed ahead missing at documents left missing_now now documents_now left_now) where
  counts : (documents_now.offset + (length documents_now.bytes + min missing_now (length left_now)) ≡ documents.offset + (length documents.bytes + min missing (length left)))
  counts =
      let a = length-append documents_now.bytes (take missing_now left_now) in
      let b = length-append documents.bytes (take missing left) in
      let c = length-take missing_now left_now in
      let d = length-take missing left in
      omega (arith, p.same_end, a, b, c, d)

  pub fewer : missing_now ≤ missing
  fewer = omega (arith, counts, p.short, p.forward)

  pub order_now : 0 < missing_now → ahead ≡ []
  order_now some = p.order (omega (arith, fewer, some))

  pub rest_passed : (place : ℕ) → rest_items place missing_now now (ahead ++ left_now) ≡ rest_items place missing at (ahead ++ left)
  rest_passed place = by missing refl
    where
      by : (m : ℕ) → missing ≡ m → rest_items place missing_now now (ahead ++ left_now) ≡ rest_items place missing at (ahead ++ left)
      by zero e =
          let none : missing_now ≡ 0 = omega (arith, fewer, e) in
          let same_left : left_now ≡ left = rw (none, e) at p.rest in
          let same_at : now ≡ at = omega (arith, counts, p.position, none, e) in
          rw (none, e, same_left, same_at) refl
      by (suc m) e =
          let empty : ahead ≡ [] = p.order (omega (arith, e)) in
          let short : nat_lt (length left_now) missing_now ≡ nat_lt (length left) missing = short_same _ _ _ _ p.short in
          let same_at : now + missing_now ≡ at + missing = omega (arith, counts, p.position, p.short) in
          rw (empty, short, same_at, p.rest) refl

pub take_ordered : (ahead : List ℕ) (missing : ℕ) (left : List ℕ) → (0 < missing → ahead ≡ []) → take missing (ahead ++ left) ≡ take missing left
take_ordered ahead zero left order = refl
take_ordered ahead (suc m) left order = rw (order (omega arith)) refl

-- what is left where an entry was read
left_is : (offset : ℕ) (bytes : List ℕ) → documents_left offset bytes ≡ entry_then (entry offset bytes) (read_rest (offset + length bytes))
left_is offset bytes =
    let here : offset_of (offset + length bytes) bytes ≡ offset = omega arith in
    read_is (offset + length bytes) bytes ∙ ap (λ k. entry_then (entry k bytes) (read_rest (offset + length bytes))) here

left_document : (offset now : ℕ) (bytes rest : List ℕ) (raw : RawDoc) → entry offset bytes ≡ Ok (Some raw, rest) → now + length rest ≡ offset + length bytes → found_items (documents_left offset bytes) ≡ document_item raw ∷ found_items (documents_left now rest)
left_document offset now bytes rest raw e same =
    let read_so : documents_left offset bytes ≡ with_document raw (read_rest (offset + length bytes) rest) = left_is offset bytes ∙ ap (λ r. entry_then r (read_rest (offset + length bytes))) e in
    ap found_items read_so ∙ ap (λ k. document_item raw ∷ found_items (read_rest k rest)) (sym same)

left_none : (offset : ℕ) (bytes rest : List ℕ) → entry offset bytes ≡ Ok (None, rest) → found_items (documents_left offset bytes) ≡ []
left_none offset bytes rest e =
    let read_so : documents_left offset bytes ≡ ([], None) = left_is offset bytes ∙ ap (λ r. entry_then r (read_rest (offset + length bytes))) e in
    ap found_items read_so

left_refused : (offset : ℕ) (bytes : List ℕ) (refusal : TrecRefusal) → entry offset bytes ≡ Err refusal → found_items (documents_left offset bytes) ≡ item.Trec refusal ∷ []
left_refused offset bytes refusal e =
    let read_so : documents_left offset bytes ≡ ([], Some refusal) = left_is offset bytes ∙ ap (λ r. entry_then r (read_rest (offset + length bytes))) e in
    ap found_items read_so

-- behind the last document nothing stands
none_behind : (offset : ℕ) (bytes rest : List ℕ) → entry offset bytes ≡ Ok (None, rest) → rest ≡ []
unfolding entry
none_behind offset bytes rest e = by (behind_space bytes) (offset + prefix_len is_space bytes) e
  where
    by : (xs : List ℕ) (k : ℕ) → document_at k xs ≡ Ok (None, rest) → rest ≡ []
    by [] k e =
        let here : Option RawDoc × List ℕ = (None, []) in
        let there : Option RawDoc × List ℕ = (None, rest) in
        let same : here ≡ there = cc in
        sym (ap (λ z. z.1) same)
    by (x ∷ xs) k e = read_some (bounded_document (x ∷ xs)) e
      where
        read_some : (r : Reading (List ℕ × List Piece)) → document_read k (x ∷ xs) r ≡ Ok (None, rest) → rest ≡ []
        read_some (Ok ((name, found), n)) e =
            let raw : RawDoc = record { docno = name; offset = k; pieces = found } in
            let here : Option RawDoc × List ℕ = (Some raw, drop n (x ∷ xs)) in
            let there : Option RawDoc × List ℕ = (None, rest) in
            let same : here ≡ there = cc in
            let never : Some raw ≡ None = ap (λ z. z.0) same in
            cc
        read_some (Err why) e = cc

-- GIVEN ITEMS

module _ (ahead : List ℕ) (missing at : ℕ) (documents : Ahead) (missing_now now : ℕ) (documents_now : Ahead) (place : ℕ) where
  module _ (left left_now : List ℕ) (p : Passed ahead missing at documents left missing_now now documents_now left_now) where
    unread_before : documents.bytes ++ take missing (ahead ++ left) ≡ documents.bytes ++ take missing left
    unread_before = ap (λ xs. documents.bytes ++ xs) (take_ordered ahead missing left p.order)

    unread_now : documents_now.bytes ++ take missing_now (ahead ++ left_now) ≡ documents_now.bytes ++ take missing_now left_now
    unread_now = ap (λ xs. documents_now.bytes ++ xs) (take_ordered ahead missing_now left_now (order_now ahead missing at documents left missing_now now documents_now left_now p))

    same_rest_now : rest_items place missing_now now (ahead ++ left_now) ≡ rest_items place missing at (ahead ++ left)
    same_rest_now = rest_passed ahead missing at documents left missing_now now documents_now left_now p place

    pub told_document : (raw : RawDoc) → entry documents.offset (documents.bytes ++ take missing left) ≡ Ok (Some raw, documents_now.bytes ++ take missing_now left_now)
        → block_items place missing documents at (ahead ++ left) ≡ document_item raw ∷ block_items place missing_now documents_now now (ahead ++ left_now)
    told_document raw e =
        let found = left_document documents.offset documents_now.offset (documents.bytes ++ take missing left) (documents_now.bytes ++ take missing_now left_now) raw e p.same_end in
        ap (λ xs. found_items (documents_left documents.offset xs) ++ rest_items place missing at (ahead ++ left)) unread_before
        ∙ ap (λ xs. xs ++ rest_items place missing at (ahead ++ left)) found
        ∙ ap (λ xs. document_item raw ∷ (found_items (documents_left documents_now.offset (documents_now.bytes ++ take missing_now left_now)) ++ xs)) (sym same_rest_now)
        ∙ sym (ap (λ xs. document_item raw ∷ (found_items (documents_left documents_now.offset xs) ++ rest_items place missing_now now (ahead ++ left_now))) unread_now)

    pub told_refused : (refusal : TrecRefusal) → entry documents.offset (documents.bytes ++ take missing left) ≡ Err refusal
        → block_items place missing documents at (ahead ++ left) ≡ item.Trec refusal ∷ rest_items place missing_now now (ahead ++ left_now)
    told_refused refusal e =
        ap (λ xs. found_items (documents_left documents.offset xs) ++ rest_items place missing at (ahead ++ left)) unread_before
        ∙ ap (λ xs. xs ++ rest_items place missing at (ahead ++ left)) (left_refused documents.offset (documents.bytes ++ take missing left) refusal e)
        ∙ ap (λ xs. item.Trec refusal ∷ xs) (sym same_rest_now)

    pub told_none : entry documents.offset (documents.bytes ++ take missing left) ≡ Ok (None, documents_now.bytes ++ take missing_now left_now)
        → block_items place missing documents at (ahead ++ left) ≡ with_item (short_of place missing_now) (items_at now (ahead ++ left_now))
    told_none e =
        let nothing = none_behind documents.offset (documents.bytes ++ take missing left) (documents_now.bytes ++ take missing_now left_now) e in
        let empty : length (take missing_now left_now) ≡ 0 = omega (arith, length-append documents_now.bytes (take missing_now left_now), ap length nothing) in
        ap (λ xs. found_items (documents_left documents.offset xs) ++ rest_items place missing at (ahead ++ left)) unread_before
        ∙ ap (λ xs. xs ++ rest_items place missing at (ahead ++ left)) (left_none documents.offset (documents.bytes ++ take missing left) (documents_now.bytes ++ take missing_now left_now) e)
        ∙ sym same_rest_now ∙ at_end missing_now refl empty
      where
        at_end : (m : ℕ) → missing_now ≡ m → length (take missing_now left_now) ≡ 0 → rest_items place missing_now now (ahead ++ left_now) ≡ with_item (short_of place missing_now) (items_at now (ahead ++ left_now))
        at_end zero e empty =
            let whole : nat_lt (length (ahead ++ left_now)) missing_now ≡ false = le-ltb (length (ahead ++ left_now)) missing_now (omega (arith, e)) in
            let at_is : now + missing_now ≡ now = omega (arith, e) in
            let none : rest_items place missing_now now (ahead ++ left_now) ≡ items_at (now + missing_now) (drop missing_now (ahead ++ left_now)) = rw whole refl in
            none ∙ ap (λ k. items_at k (drop missing_now (ahead ++ left_now))) at_is ∙ rw e refl
        at_end (suc m) e empty =
            let order : ahead ≡ [] = order_now ahead missing at documents left missing_now now documents_now left_now p (omega (arith, e)) in
            let taken = length-take missing_now left_now in
            let empty_left : left_now ≡ [] = nil_of left_now (omega (arith, taken, empty, e)) in
            let all : ahead ++ left_now ≡ [] = rw (order, empty_left) refl in
            rest_skipped place missing_now missing_now now now (ahead ++ left_now) (omega (arith, ap length all)) refl
            ∙ ap (λ xs. with_item (short_of place missing_now) (items_at now (drop missing_now xs))) all
            ∙ ap (λ xs. with_item (short_of place missing_now) (items_at now xs)) (drop-nil missing_now)
            ∙ sym (ap (λ xs. with_item (short_of place missing_now) (items_at now xs)) all)

  -- The same of a source that tells what it has left, or doesn't.
  module _ (left left_now : Option (List ℕ)) (rest : option_map (drop missing_now) left_now ≡ option_map (drop missing) left) (short : option_map (λ xs. missing_now - length xs) left_now ≡ option_map (λ xs. missing - length xs) left)
      (same_end : option_map (λ xs. documents_now.offset + length xs) (prepend_known documents_now.bytes (option_map (take missing_now) left_now)) ≡ option_map (λ xs. documents.offset + length xs) (prepend_known documents.bytes (option_map (take missing) left)))
      (order : IfSome left (λ _. 0 < missing → ahead ≡ [])) (forward : documents.offset + length documents.bytes ≤ documents_now.offset + length documents_now.bytes) (position : now + (documents.offset + length documents.bytes) ≡ at + (documents_now.offset + length documents_now.bytes)) where
    passed_is : (xs ys : List ℕ) → left ≡ Some xs → left_now ≡ Some ys → Passed ahead missing at documents xs missing_now now documents_now ys
    passed_is xs ys e f = record {
      rest = (let r : Some (drop missing_now ys) ≡ Some (drop missing xs) = rw (e, f) at rest in cc);
      short = (let r : Some (missing_now - length ys) ≡ Some (missing - length xs) = rw (e, f) at short in cc);
      same_end = (let r : Some (documents_now.offset + length (documents_now.bytes ++ take missing_now ys)) ≡ Some (documents.offset + length (documents.bytes ++ take missing xs)) = rw (e, f) at same_end in cc);
      order = rw e at order;
      forward = forward;
      position = position;
    }

    by_told : (f g : List ℕ → List Item) → ((xs ys : List ℕ) → left ≡ Some xs → left_now ≡ Some ys → f xs ≡ g ys) → option_map f left ≡ option_map g left_now
    by_told f g same = by left left_now refl refl
      where
        by : (a b : Option (List ℕ)) → left ≡ a → left_now ≡ b → option_map f left ≡ option_map g left_now
        by None None e h = rw (e, h) refl
        by None (Some ys) e h = let r : Some (drop missing_now ys) ≡ None = rw (e, h) at rest in cc
        by (Some xs) None e h = let r : None ≡ Some (drop missing xs) = rw (e, h) at rest in cc
        by (Some xs) (Some ys) e h = rw (e, h) (ap (λ zs. Some zs) (same xs ys e h))

    -- a document was read
    pub given_document : (raw : RawDoc) → option_map (entry documents.offset) (prepend_known documents.bytes (option_map (take missing) left)) ≡ option_map (λ xs. Ok (Some raw, xs)) (prepend_known documents_now.bytes (option_map (take missing_now) left_now))
        → option_map (λ xs. block_items place missing documents at (ahead ++ xs)) left ≡ option_map (λ xs. document_item raw ∷ block_items place missing_now documents_now now (ahead ++ xs)) left_now
    given_document raw read_so = by_told (λ xs. block_items place missing documents at (ahead ++ xs)) (λ xs. document_item raw ∷ block_items place missing_now documents_now now (ahead ++ xs)) (λ xs ys e h.
        let r : Some (entry documents.offset (documents.bytes ++ take missing xs)) ≡ Some (Ok (Some raw, documents_now.bytes ++ take missing_now ys)) = rw (e, h) at read_so in
        told_document xs ys (passed_is xs ys e h) raw cc)

    -- the documents have ended
    pub given_none : option_map (entry documents.offset) (prepend_known documents.bytes (option_map (take missing) left)) ≡ option_map (λ xs. Ok (None, xs)) (prepend_known documents_now.bytes (option_map (take missing_now) left_now))
        → option_map (λ xs. block_items place missing documents at (ahead ++ xs)) left ≡ option_map (λ xs. with_item (short_of place missing_now) (items_at now (ahead ++ xs))) left_now
    given_none read_so = by_told (λ xs. block_items place missing documents at (ahead ++ xs)) (λ xs. with_item (short_of place missing_now) (items_at now (ahead ++ xs))) (λ xs ys e h.
        let r : Some (entry documents.offset (documents.bytes ++ take missing xs)) ≡ Some (Ok (None, documents_now.bytes ++ take missing_now ys)) = rw (e, h) at read_so in
        told_none xs ys (passed_is xs ys e h) cc)

    -- one was refused
    pub given_refused : (refusal : TrecRefusal) → IsRefused entry refusal documents.offset (prepend_known documents.bytes (option_map (take missing) left))
        → option_map (λ xs. block_items place missing documents at (ahead ++ xs)) left ≡ option_map (λ xs. item.Trec refusal ∷ rest_items place missing_now now (ahead ++ xs)) left_now
    given_refused refusal read_so = by_told (λ xs. block_items place missing documents at (ahead ++ xs)) (λ xs. item.Trec refusal ∷ rest_items place missing_now now (ahead ++ xs)) (λ xs ys e h.
        let r : Some (entry documents.offset (documents.bytes ++ take missing xs)) ≡ Some (Err refusal) = rw e at read_so in
        told_refused xs ys (passed_is xs ys e h) refusal cc)

    -- the documents come first from what they have ahead, then from the source itself
    pub given_order : IfSome left_now (λ _. 0 < missing_now → ahead ≡ [])
    given_order = by left left_now refl refl
      where
        by : (a b : Option (List ℕ)) → left ≡ a → left_now ≡ b → IfSome left_now (λ _. 0 < missing_now → ahead ≡ [])
        by a None e h = rw h tt
        by None (Some ys) e h = let r : Some (drop missing_now ys) ≡ None = rw (e, h) at rest in cc
        by (Some xs) (Some ys) e h = rw h (order_now ahead missing at documents xs missing_now now documents_now ys (passed_is xs ys e h))

-- LINES THAT ARE GIVEN

told_of : {A : Type 0} (f : List ℕ → A) (h : List ℕ → A) (a b : Option (List ℕ)) → option_map f a ≡ option_map h b → is_some a ≡ is_some b
told_of f h None None e = refl
told_of f h None (Some ys) e = cc
told_of f h (Some xs) None e = cc
told_of f h (Some xs) (Some ys) e = refl

pub given_line : (found : Line) (text : List ℕ) (passed : ℕ) (old mid : Ahead) (left left_now : Option (List ℕ)) (f : List ℕ → List Item)
    → GivesLine (Some found) text old.offset (prepend_known old.bytes left) (prepend_known mid.bytes left_now)
    → option_map (λ xs. mid.offset + length xs) (prepend_known mid.bytes left_now) ≡ option_map (λ xs. old.offset + length xs) (prepend_known old.bytes left)
    → ((rest : List ℕ) → f rest ≡ line_items found.is_too_long text (found.place + passed) (mid.offset + passed) (mid.bytes ++ rest))
    → option_map (λ rest. items_at (old.offset + passed) (old.bytes ++ rest)) left ≡ option_map f left_now
given_line found text passed old mid left left_now f gives same_end each =
    let says : List ℕ → List Item = line_items found.is_too_long text (found.place + passed) (mid.offset + passed) in
    over_left (items_at (old.offset + passed)) says old.bytes mid.bytes left left_now (line_given found text passed old.offset mid.offset (prepend_known old.bytes left) (prepend_known mid.bytes left_now) gives same_end)
    ∙ sym (map_same f (λ rest. says (mid.bytes ++ rest)) left_now each)

pub given_end : (passed : ℕ) (old mid : Ahead) (left left_now : Option (List ℕ)) → IsAtEnd (prepend_known old.bytes left)
    → option_map (λ xs. mid.offset + length xs) (prepend_known mid.bytes left_now) ≡ option_map (λ xs. old.offset + length xs) (prepend_known old.bytes left)
    → option_map (λ rest. items_at (old.offset + passed) (old.bytes ++ rest)) left ≡ option_map (λ rest. item.Event event.End ∷ []) left_now
given_end passed old mid left left_now ended same_end =
    over_left (items_at (old.offset + passed)) (λ _. item.Event event.End ∷ []) old.bytes mid.bytes left left_now
    (end_given passed old.offset mid.offset (prepend_known old.bytes left) (prepend_known mid.bytes left_now) ended (sym (told_of (λ xs. mid.offset + length xs) (λ xs. old.offset + length xs) (prepend_known mid.bytes left_now) (prepend_known old.bytes left) same_end)))

-- what was skipped
pub given_rest : (place missing n passed : ℕ) (old mid : Ahead) (left left_now : Option (List ℕ))
    → prepend_known mid.bytes left_now ≡ option_map (drop missing) (prepend_known old.bytes left)
    → IfSome (prepend_known old.bytes left) (λ bytes. n ≡ missing - length bytes) → mid.offset + n ≡ old.offset + missing
    → option_map (λ rest. rest_items place missing (old.offset + passed) (old.bytes ++ rest)) left ≡ option_map (λ rest. with_item (short_of place n) (items_at (mid.offset + passed) (mid.bytes ++ rest))) left_now
given_rest place missing n passed old mid left left_now rest few offset =
    over_left (rest_items place missing (old.offset + passed)) (λ xs. with_item (short_of place n) (items_at (mid.offset + passed) xs)) old.bytes mid.bytes left left_now
    (told (prepend_known old.bytes left) few ∙ ap (option_map (λ xs. with_item (short_of place n) (items_at (mid.offset + passed) xs))) (sym rest))
  where
    told : (o : Option (List ℕ)) → IfSome o (λ bytes. n ≡ missing - length bytes) → option_map (rest_items place missing (old.offset + passed)) o ≡ option_map (λ xs. with_item (short_of place n) (items_at (mid.offset + passed) xs)) (option_map (drop missing) o)
    told None few = refl
    told (Some bytes) few = ap (λ xs. Some xs) (rest_skipped place missing n (old.offset + passed) (mid.offset + passed) bytes few (omega (arith, offset)))

-- ANSWERS

pub line_event : (e : SomeEvent) → IsLineEvent e → is_end_event e ≡ false
line_event (event.Document d) h = absurd h
line_event (event.Delete docno) h = refl
line_event event.Flush h = refl
line_event event.Merge h = refl
line_event (event.Turn n) h = refl
line_event (event.Open name k text) h = refl
line_event (event.Step name n) h = refl
line_event (event.Show name) h = refl
line_event (event.Explain name rank) h = refl
line_event (event.Scan text) h = refl
line_event (event.Close name) h = refl
line_event event.End h = absurd h

pub session_event : (e : SomeEvent) → IsLineEvent e → IsSessionEvent e
session_event (event.Document d) h = tt
session_event (event.Delete docno) h = h
session_event event.Flush h = h
session_event event.Merge h = h
session_event (event.Turn n) h = h
session_event (event.Open name k text) h = h
session_event (event.Step name n) h = h
session_event (event.Show name) h = h
session_event (event.Explain name rank) h = h
session_event (event.Scan text) h = h
session_event (event.Close name) h = h
session_event event.End h = tt

-- a refusal in the text is what the reading says
pub refused_is : (refusal : TrecRefusal) (offset : ℕ) (old new : Option (List ℕ)) → IsTextRefusal refusal → Gives (Err refusal) offset old new → IsRefused entry refusal offset old
refused_is (NoDocno at) offset old new is gives = gives
refused_is (DocnoEmpty at) offset old new is gives = gives
refused_is (DocnoBad at) offset old new is gives = gives
refused_is (DocnoLong at) offset old new is gives = gives
refused_is (DocOpen at) offset old new is gives = gives
refused_is (NotADoc at) offset old new is gives = gives
refused_is (DocTooLarge at) offset old new is gives = gives
refused_is Read offset old new is gives = absurd is
refused_is Ended offset old new is gives = absurd is
refused_is Memory offset old new is gives = absurd is

-- behind a refusal in the text the count of the source is what it was
pub text_stays : {X : Type 0} (refusal : TrecRefusal) (before now : ℕ) → IsTextRefusal refusal → StaysUnlessRead {X = X} (Err refusal) before now → now ≡ before
text_stays refusal before now is stays = stays (λ e. let read : refusal ≡ Read = cc in subst IsTextRefusal read is)

-- A SCRIPT READ TO ITS END

pub followed_start : (f h : List ℕ → List Item) (left : Option (List ℕ)) → ((bytes : List ℕ) → f bytes ≡ h bytes) → option_map (λ rest. [] ++ f rest) left ≡ option_map h left
followed_start f h left same = map_same (λ rest. [] ++ f rest) h left same

pub followed_next : (done : List Item) (found : Item) (f h : List ℕ → List Item) (left left_now : Option (List ℕ)) (all : Option (List Item)) → option_map (λ rest. done ++ f rest) left ≡ all → option_map f left ≡ option_map (λ rest. found ∷ h rest) left_now
    → option_map (λ rest. (done ++ found ∷ []) ++ h rest) left_now ≡ all
followed_next done found f h None None all so_far gives = so_far
followed_next done found f h None (Some ys) all so_far gives = cc
followed_next done found f h (Some xs) None all so_far gives = cc
followed_next done found f h (Some xs) (Some ys) all so_far gives =
    let same : f xs ≡ found ∷ h ys = cc in
    ap (λ zs. Some zs) (append_assoc done (found ∷ []) (h ys) ∙ ap (λ zs. done ++ zs) (sym same)) ∙ so_far
