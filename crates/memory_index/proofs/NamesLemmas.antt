-- the distinct names of fields
use Rattle.std.proofs.Common.{◌≡◌, ℕ, ◌+◌, List, [], ◌∷◌, ◌++◌, length, Bool, true, false, cond, not, ◌||◌, ◌&&◌, refl, sym, ap, subst, ◌∙◌, arith, length-append}
use Rattle.std.specs.List.{All, AllByRecursion, Contains, IsDistinct, count_by, filter, list_any}
use Rattle.std.specs.Set.{is_member}
use Rattle.std.specs.Str.{bytes_eq}
use Rattle.std.proofs.lemmas.Cmp.{nat_list_eq_equiv}
use Rattle.std.proofs.lemmas.List.{take-append-le}
use Rattle.std.proofs.lemmas.List.Elements.{All-append, All-contains, All-filter, All-from_recursion, recursion_from_All}
use Rattle.std.proofs.lemmas.List.Folds.{list_any-append}
use Rattle.std.proofs.lemmas.List.Sums.{length-filter}
use Rattle.std.proofs.lemmas.Map.Keys.{IsDistinct-cons, IsDistinct-head, IsDistinct-tail}
use Rattle.std.proofs.lemmas.Map.Made.{IsDistinct-from_AllPairs, is_member-Decides, is_member-filter, length-from_keys}
use Rattle.std.proofs.lemmas.Slice.Eq.{bytes_eq-Decides}
use Rattle.std.proofs.Math.Bool.{or_comm}
use Rattle.std.proofs.Math.Seq.{take-length}
use Rattle.indexmap.specs.IndexSet.{insert_key}
use Rattle.ri_base.specs.Collection.{field_names, name_count, names_of}
use Rattle.ri_base.specs.Documents.{Document, Field}
use Rattle.ri_base.specs.Names.{AreNames}
use Rattle.memory_index.specs.Numbering.{AreNoted}
use Rattle.memory_index.proofs.KeptLemmas.{is_member-field_names}
use Rattle.memory_index.proofs.NumberingLemmas.{IsAdded, IsAdded-insert}

-- ---- one name more

is_member-insert_key : (ks : List (List ℕ)) (k q : List ℕ) → is_member bytes_eq (insert_key bytes_eq ks k) q ≡ (is_member bytes_eq ks q || bytes_eq q k)
is_member-insert_key ks k q = by (list_any (bytes_eq k) ks) refl
  where
    or_false : (b : Bool) → (b || false) ≡ b
    or_false true = refl
    or_false false = refl

    absorbed : (a b : Bool) → (b ≡ true → a ≡ true) → a ≡ (a || b)
    absorbed true b f = refl
    absorbed false true f = f refl
    absorbed false false f = refl

    by : (b : Bool) → list_any (bytes_eq k) ks ≡ b → is_member bytes_eq (cond b ks (ks ++ k ∷ [])) q ≡ (is_member bytes_eq ks q || bytes_eq q k)
    by true e = absorbed (is_member bytes_eq ks q) (bytes_eq q k) (λ h. subst (λ x. list_any (bytes_eq x) ks ≡ true) (sym ((bytes_eq-Decides q k).0 h)) e)
    by false e = list_any-append (bytes_eq q) ks (k ∷ []) ∙ ap (λ b. is_member bytes_eq ks q || b) (or_false (bytes_eq q k))

pub AreNoted-start : (old : List (List ℕ)) → AreNoted old old []
AreNoted-start old = record { kept = take-length old; more_than = omega arith; together = λ q. refl }

pub AreNoted-more : (old mid new more : List (List ℕ)) (k : List ℕ) → AreNoted old mid more → new ≡ insert_key bytes_eq mid k → AreNoted old new (more ++ k ∷ [])
AreNoted-more old mid new more k h is = record {
  kept = rw (is, added.is) (take-append-le (length old) mid added.ext h.more_than ∙ h.kept);
  more_than = rw (is, added.is) (omega (arith, h.more_than, length-append mid added.ext));
  together = λ q. ap (λ l. is_member bytes_eq l q) is ∙ is_member-insert_key mid k q ∙ ap (λ b. b || bytes_eq q k) (h.together q)
      ∙ moved (is_member bytes_eq more q) (is_member bytes_eq old q) (bytes_eq q k)
      ∙ ap (λ b. b || is_member bytes_eq old q) (sym (list_any-append (bytes_eq q) more (k ∷ [])));
}
  where
    added : IsAdded mid (insert_key bytes_eq mid k) k
    added = IsAdded-insert mid k

    moved : (a b c : Bool) → ((a || b) || c) ≡ ((a || (c || false)) || b)
    moved true b c = refl
    moved false true true = refl
    moved false true false = refl
    moved false false true = refl
    moved false false false = refl

-- ---- the names of documents and of one more

abbrev fresh : List (List ℕ) → List (List ℕ) → List (List ℕ)
fresh ks ns = filter (λ n. not (is_member bytes_eq ks n)) ns

unlike_all : (n : List ℕ) (xs : List (List ℕ)) → list_any (bytes_eq n) xs ≡ false → AllByRecursion (λ y. bytes_eq n y ≡ false) xs
unlike_all n [] none = tt
unlike_all n (x ∷ xs) none = (left (bytes_eq n x) (list_any (bytes_eq n) xs) none, unlike_all n xs (right (bytes_eq n x) (list_any (bytes_eq n) xs) none))
  where
    left : (a b : Bool) → (a || b) ≡ false → a ≡ false
    left true b e = e
    left false b e = refl

    right : (a b : Bool) → (a || b) ≡ false → b ≡ false
    right true b e = cc
    right false b e = e

distinct_together : (ks ns : List (List ℕ)) → IsDistinct bytes_eq ks → IsDistinct bytes_eq ns → IsDistinct bytes_eq (fresh ks ns ++ ks)
distinct_together ks [] apart more = apart
distinct_together ks (n ∷ ns) apart more = by (is_member bytes_eq ks n) refl (distinct_together ks ns apart (IsDistinct-tail bytes_eq n ns more))
  where
    by : (b : Bool) → is_member bytes_eq ks n ≡ b → IsDistinct bytes_eq (fresh ks ns ++ ks) → IsDistinct bytes_eq (cond (not b) (n ∷ fresh ks ns) (fresh ks ns) ++ ks)
    by true e rest = rest
    by false e rest =
        let P : List ℕ → Type 0 = λ y. bytes_eq n y ≡ false in
        let among : All P ns = All-from_recursion P ns (IsDistinct-head bytes_eq n ns more) in
        IsDistinct-cons bytes_eq n (fresh ks ns ++ ks)
        (recursion_from_All P (fresh ks ns ++ ks) (All-append P (fresh ks ns) ks (All-filter (λ n. not (is_member bytes_eq ks n)) P ns among) (All-from_recursion P ks (unlike_all n ks e)))) rest

member_together : (ks ns : List (List ℕ)) (q : List ℕ) → is_member bytes_eq (fresh ks ns ++ ks) q ≡ (is_member bytes_eq ns q || is_member bytes_eq ks q)
member_together ks ns q =
    list_any-append (bytes_eq q) (fresh ks ns) ks
    ∙ ap (λ b. b || is_member bytes_eq ks q) (is_member-filter nat_list_eq_equiv (λ n. not (is_member bytes_eq ks n)) q alike ns)
    ∙ both (is_member bytes_eq ns q) (is_member bytes_eq ks q)
  where
    alike : (x : List ℕ) → bytes_eq q x ≡ true → not (is_member bytes_eq ks q) ≡ not (is_member bytes_eq ks x)
    alike x e = ap (λ y. not (is_member bytes_eq ks y)) ((bytes_eq-Decides q x).0 e)

    both : (a b : Bool) → ((a && not b) || b) ≡ (a || b)
    both true true = refl
    both true false = refl
    both false true = refl
    both false false = refl

member_of_names : (names : List (List ℕ)) (fields : List Field) → AreNames names fields → (q : List ℕ) → is_member bytes_eq names q ≡ is_member bytes_eq (names_of fields) q
member_of_names names fields h q = same (is_member bytes_eq names q) (is_member bytes_eq (names_of fields) q) forth back
  where
    same : (a b : Bool) → (a ≡ true → b ≡ true) → (b ≡ true → a ≡ true) → a ≡ b
    same true b f g = sym (f refl)
    same false true f g = g refl
    same false false f g = refl

    forth : is_member bytes_eq names q ≡ true → is_member bytes_eq (names_of fields) q ≡ true
    forth e = (is_member-Decides bytes_eq-Decides (names_of fields) q).1 (All-contains (Contains (names_of fields)) names q h.only ((is_member-Decides bytes_eq-Decides names q).0 e))

    back : is_member bytes_eq (names_of fields) q ≡ true → is_member bytes_eq names q ≡ true
    back e = (is_member-Decides bytes_eq-Decides names q).1 (All-contains (Contains names) (names_of fields) q h.all ((is_member-Decides bytes_eq-Decides (names_of fields) q).0 e))

-- what the distinct names of fields add is what the names of the fields add
pub AreNoted-names : (old new names : List (List ℕ)) (fields : List Field) → AreNames names fields → AreNoted old new names → AreNoted old new (names_of fields)
AreNoted-names old new names fields h noted = record {
  kept = noted.kept;
  more_than = noted.more_than;
  together = λ q. noted.together q ∙ ap (λ b. b || is_member bytes_eq old q) (member_of_names names fields h q);
}

-- the names of the documents and the new ones of this document are as many as there are names together
pub name_count-with : (ks ns : List (List ℕ)) (docs : List Document) (d : Document) → IsDistinct bytes_eq ks → AreNames ns d.fields
    → ((q : List ℕ) → is_member bytes_eq ks q ≡ is_member bytes_eq (field_names docs) q)
    → length ks + count_by (λ n. not (is_member bytes_eq ks n)) ns ≡ name_count (docs ++ d ∷ [])
name_count-with ks ns docs d apart names named =
    let apart_too : IsDistinct bytes_eq ns = IsDistinct-from_AllPairs bytes_eq-Decides ns names.distinct in
    let whole : length (fresh ks ns ++ ks) ≡ name_count (docs ++ d ∷ []) =
    length-from_keys nat_list_eq_equiv (fresh ks ns ++ ks) (field_names (docs ++ d ∷ [])) (distinct_together ks ns apart apart_too)
    (λ q. member_together ks ns q ∙ ap (λ b. b || is_member bytes_eq ks q) (member_of_names ns d.fields names q)
    ∙ ap (λ b. is_member bytes_eq (names_of d.fields) q || b) (named q) ∙ or_comm (is_member bytes_eq (names_of d.fields) q) (is_member bytes_eq (field_names docs) q)
    ∙ sym (is_member-field_names docs d q)) in
    omega (arith, whole, length-append (fresh ks ns) ks, length-filter (λ n. not (is_member bytes_eq ks n)) ns)
