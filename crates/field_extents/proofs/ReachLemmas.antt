-- An extent lies in a field of a name exactly where the fields of that name that have begun reach its end.
use Rattle.std.proofs.Common.{◌≡◌, ℕ, ◌+◌, ◌<◌, ◌≤◌, ⊎_elim, Bool, true, false, ◌||◌, ◌&&◌, nat_le, max, List, [], ◌∷◌, ◌++◌, length, take, drop, get_or, filter, cond, refl, sym, ap, ◌∙◌, append-nil, arith}
use Rattle.std.specs.List.{All, AllPairs, AllWithin, prefix_len}
use Rattle.std.specs.Str.{bytes_eq}
use Rattle.std.proofs.Math.Seq.{take-add}
use Rattle.std.proofs.Math.Bool.{or-false, or_assoc}
use Rattle.std.proofs.lemmas.Bool.{and_left, and_right, cases_Bool, le-leb, leb-false, leb-true, lt-leb}
use Rattle.std.proofs.lemmas.Bool.Decides.{nat_tests}
use Rattle.std.proofs.lemmas.List.{get_or_read, take-append-drop}
use Rattle.std.proofs.lemmas.List.Elements.{All-head, All-tail, filter_more}
use Rattle.std.proofs.lemmas.List.Folds.{list_any_none, list_any-append}
use Rattle.std.proofs.lemmas.List.Sums.{fold-append}
use Rattle.ri_base.specs.Documents.{Field, IsBefore}
use Rattle.ri_base.specs.Pair.{Pair}
use Rattle.field_extents.specs.Extents.{AreInOrder}
use Rattle.field_extents.specs.Fields.{lies_in, lies_in_some, greatest_end}
use Rattle.field_extents.proofs.Orders.{begin-IsBefore, begin-IsNoLater}
use Rattle.field_extents.proofs.Prefixes.{fails_behind, passes_front, within_front}

-- among fields that begin at or before x, x lies in one of the name exactly where their greatest end is no less than its own
pub begun : (name : List ℕ) (x : Pair) (least : ℕ) (fields : List Field) → All (λ f. f.begin ≤ x.begin) fields → nat_le x.end (greatest_end name least fields) ≡ (nat_le x.end least || lies_in_some fields name x)
begun name x least [] h = sym (or-false (nat_le x.end least))
begun name x least (f ∷ fields) h =
    let first : f.begin ≤ x.begin = All-head (λ f. f.begin ≤ x.begin) f fields h in
    let later = All-tail (λ f. f.begin ≤ x.begin) f fields h in
    ⊎_elim
    (λ (same : bytes_eq f.name name ≡ true).
    let here : nat_le x.end (max least f.end) ≡ (nat_le x.end least || (nat_le f.begin x.begin && nat_le x.end f.end)) = grind (arith, nat_tests) in
    rw same (begun name x (max least f.end) fields later ∙ rw here (or_assoc (nat_le x.end least) _ _)))
    (λ (other : bytes_eq f.name name ≡ false). rw other (begun name x least fields later))
    (cases_Bool (bytes_eq f.name name))

-- no field that begins behind x holds it
not_begun : (name : List ℕ) (x : Pair) (fields : List Field) → All (λ f. x.begin < f.begin) fields → lies_in_some fields name x ≡ false
not_begun name x fields h =
    list_any_none (lies_in name x) fields (λ k d l. and_left _ _ (and_right _ _ (lt-leb _ _ (h k d l))))

-- where n fields have begun
lies_in_some-by_reach : (name : List ℕ) (x : Pair) (fields : List Field) (n : ℕ) → 0 < x.end → All (λ f. f.begin ≤ x.begin) (take n fields) → All (λ f. x.begin < f.begin) (drop n fields) → lies_in_some fields name x ≡ nat_le x.end (greatest_end name 0 (take n fields))
lies_in_some-by_reach name x fields n some front rest =
    let lies : List Field → Bool = λ fs. lies_in_some fs name x in
    let whole : lies fields ≡ lies (take n fields ++ drop n fields) = ap lies (sym (take-append-drop n fields)) in
    let split : lies fields ≡ (lies (take n fields) || lies (drop n fields)) = whole ∙ list_any-append (lies_in name x) (take n fields) (drop n fields) in
    let by_front : lies fields ≡ lies (take n fields) = split ∙ rw (not_begun name x (drop n fields) rest) (or-false (lies (take n fields))) in
    let reaches : nat_le x.end (greatest_end name 0 (take n fields)) ≡ lies (take n fields) = begun name x 0 (take n fields) front ∙ rw (lt-leb x.end 0 some) refl in
    by_front ∙ sym reaches

-- behind those of the first n fields and those of the next that begin by a position, each begins behind it
pub all_behind : (fields : List Field) (n position : ℕ) → AllPairs IsBefore fields → All (λ f. position < f.begin) (drop (n + prefix_len (λ f. nat_le f.begin position) (drop n fields)) fields)
all_behind fields n position in_order k d l =
    let stays : AllPairs (λ f g. nat_le f.begin position ≡ false → nat_le g.begin position ≡ false) fields = λ i j e m u fails.
    lt-leb _ _ (omega (arith, leb-false _ _ fails, begin-IsBefore (get_or fields i e) (get_or fields j e) (in_order i j e m u))) in
    leb-false _ _ (fails_behind (λ f. nat_le f.begin position) fields n stays k d l)

-- the greatest end of the first n and of those of the next
pub greatest_end-more : (name : List ℕ) (fields : List Field) (n more reach to : ℕ) → reach ≡ greatest_end name 0 (take n fields) → to ≡ greatest_end name reach (take more (drop n fields)) → to ≡ greatest_end name 0 (take (n + more) fields)
greatest_end-more name fields n more reach to of_front of_more =
    let front_and_more : greatest_end name 0 (take (n + more) fields) ≡ greatest_end name (greatest_end name 0 (take n fields)) (take more (drop n fields)) =
    ap (λ fs. greatest_end name 0 fs) (take-add n more fields) ∙ fold-append _ 0 (take n fields) (take more (drop n fields)) in
    of_more ∙ ap (λ least. greatest_end name least (take more (drop n fields))) of_front ∙ sym front_and_more

-- the first k extents have been decided: n fields begin at or before those, and the greatest of their ends is `reach`
pub record HasReached (xs : List Pair) (fields : List Field) (name : List ℕ) (k n reach : ℕ) (kept : List Pair) : Type 0 where
  pub within : n ≤ length fields
  pub greatest : reach ≡ greatest_end name 0 (take n fields)
  pub begun : AllWithin (λ x. All (λ f. f.begin ≤ x.begin) (take n fields)) xs k (length xs)
  pub exact : kept ≡ filter (lies_in_some fields name) (take k xs)

-- the next extent is x, and `more` fields begin behind those and not behind it
module _ (xs : List Pair) (fields : List Field) (name : List ℕ) (k n reach : ℕ) (kept : List Pair) (x : Pair) (inside : k < length xs) (read : x ≡ get_or xs k x) (some : 0 < x.end) (extents : AreInOrder xs) (in_order : AllPairs IsBefore fields) (h : HasReached xs fields name k n reach kept) (more to : ℕ) (begun_more : more ≡ prefix_len (λ f. nat_le f.begin x.begin) (drop n fields)) (reached : to ≡ greatest_end name reach (take more (drop n fields))) where
  within_more : n + more ≤ length fields
  within_more = within_front (λ (f : Field). nat_le f.begin x.begin) fields n more begun_more h.within

  greatest_more : to ≡ greatest_end name 0 (take (n + more) fields)
  greatest_more = greatest_end-more name fields n more reach to h.greatest reached

  front : All (λ f. f.begin ≤ x.begin) (take (n + more) fields)
  front = passes_front (λ (f : Field). nat_le f.begin x.begin) fields n more begun_more (λ f. f.begin ≤ x.begin) (λ f. leb-true _ _) (rw read (h.begun k x (omega arith) inside))

  begun_later : AllWithin (λ y. All (λ f. f.begin ≤ y.begin) (take (n + more) fields)) xs (k + 1) (length xs)
  begun_later j d l u i e m =
      let is : x ≡ get_or xs k d = get_or_read xs k x inside read d in
      let order : x.begin ≤ (get_or xs j d).begin = begin-IsNoLater x (get_or xs j d) (rw is (extents k j d (omega arith) u)) in
      omega (arith, front i e m)

  decided : lies_in_some fields name x ≡ nat_le x.end to
  decided =
      let rest : All (λ f. x.begin < f.begin) (drop (n + more) fields) = rw begun_more (all_behind fields n x.begin in_order) in
      lies_in_some-by_reach name x fields (n + more) some front rest ∙ ap (nat_le x.end) (sym greatest_more)

  one_more : filter (lies_in_some fields name) (take (k + 1) xs) ≡ filter (lies_in_some fields name) (take k xs) ++ cond (lies_in_some fields name x) (x ∷ []) []
  one_more = rw (← read) at (filter_more (lies_in_some fields name) xs k x inside)

  pub HasReached-kept : x.end ≤ to → HasReached xs fields name (k + 1) (n + more) to (kept ++ x ∷ [])
  HasReached-kept holds =
      let lies : lies_in_some fields name x ≡ true = decided ∙ le-leb _ _ holds in
      record {
        within = within_more;
        greatest = greatest_more;
        begun = begun_later;
        exact = ap (λ ys. ys ++ x ∷ []) h.exact ∙ sym (rw lies at one_more);
      }

  pub HasReached-left : to < x.end → HasReached xs fields name (k + 1) (n + more) to kept
  HasReached-left beyond =
      let lies_not : lies_in_some fields name x ≡ false = decided ∙ lt-leb _ _ beyond in
      record {
        within = within_more;
        greatest = greatest_more;
        begun = begun_later;
        exact = h.exact ∙ sym (rw lies_not at one_more ∙ append-nil _);
      }
