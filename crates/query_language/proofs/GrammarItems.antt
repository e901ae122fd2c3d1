-- Arguments of any kind: what is read of them has the form of arguments.
use Rattle.std.proofs.Common.{ℕ, zero, suc, ◌≡◌, List, [], ◌∷◌, ◌++◌, Option, None, Some, Ok, Err, refl, sym, ap, ◌∙◌, subst, append_assoc}
use Rattle.std.specs.List.{take_while}
use Rattle.ri_base.specs.Ascii.{is_space}
use Rattle.query_reader.specs.Cursor.{At, Reading}
use Rattle.query_reader.specs.Bytes.{begins, spaced}
use Rattle.query_reader.specs.Items.{found, until_closing, next_then, further, following, first, arguments}
use Rattle.query_language.specs.Grammar.{AreSpaces}
use Rattle.query_reader.proofs.ReadFits.{AllRead, bind_all, if_all}
use Rattle.query_language.proofs.GrammarParts.{Reads, begins_parts, run_all, run_parts}

-- white space and then an item
pub record Spaced {A : Type 0} (P : A → List ℕ → List ℕ → Type 0) (bytes : List ℕ) (y : A × At) : Type 0 where
  pub space : List ℕ
  pub text : List ℕ
  pub parts : bytes ≡ space ++ (text ++ y.1.bytes)
  pub spaces : AreSpaces space
  pub is : P y.0 text y.1.bytes

-- white space and `)`
pub record Closing (text : List ℕ) : Type 0 where
  pub space : List ℕ
  pub parts : text ≡ space ++ 41 ∷ []
  pub spaces : AreSpaces space

pub weaker : {A : Type 0} (P Q : A × At → Type 0) (r : Reading A) → AllRead P r → ((x : A × At) → P x → Q x) → AllRead Q r
weaker P Q (Ok x) h k = k x h
weaker P Q (Err fault) h k = tt

abbrev pub One : {A : Type 0} → (A → List ℕ → List ℕ → Type 0) → (At → Reading A) → Type 0
One P one = (at : At) → AllRead (Reads P at.bytes) (one at)

pub spaced_reads : {A : Type 0} (P : A → List ℕ → List ℕ → Type 0) (at : At) (y : A × At) → Reads P (spaced at).bytes y → Spaced P at.bytes y
spaced_reads P at y k = record { space = take_while is_space at.bytes; text = k.text; parts = sym (run_parts is_space at.bytes) ∙ ap (λ xs. take_while is_space at.bytes ++ xs) k.parts; spaces = run_all is_space at.bytes; is = k.is }

abbrev Next : {A : Type 0} → (A → List ℕ → List ℕ → Type 0) → List ℕ → Option A × At → Type 0
Next P bytes (None, new) = (space : List ℕ) × (bytes ≡ space ++ 41 ∷ new.bytes) × AreSpaces space
Next P bytes (Some x, new) = Spaced P bytes (x, new)

found_reads : {A : Type 0} (P : A → List ℕ → List ℕ → Type 0) (at : At) (r : Reading A) → AllRead (Reads P (spaced at).bytes) r → AllRead (Next P at.bytes) (found r)
found_reads P at (Ok x) h = spaced_reads P at x h
found_reads P at (Err fault) h = tt

until_reads : {A : Type 0} (P : A → List ℕ → List ℕ → Type 0) (one : At → Reading A) → One P one → (at : At) → AllRead (Next P at.bytes) (until_closing one at)
unfolding until_closing
until_reads P one h at = if_all (Next P at.bytes) (begins 41 (spaced at).bytes) _ _
    (λ e. (take_while is_space at.bytes, sym (run_parts is_space at.bytes) ∙ ap (λ xs. take_while is_space at.bytes ++ xs) (begins_parts 41 (spaced at).bytes e), run_all is_space at.bytes))
    (λ e. found_reads P at (one (spaced at)) (h (spaced at)))

-- how arguments are made of their parts
pub record Makes {A : Type 0} (P : A → List ℕ → List ℕ → Type 0) (All : List A → List ℕ → List ℕ → Type 0) : Type 0 where
  pub last : (x : A) (space text space_behind behind : List ℕ) → AreSpaces space → P x text (space_behind ++ 41 ∷ behind) → AreSpaces space_behind → All (x ∷ []) (space ++ (text ++ (space_behind ++ 41 ∷ []))) behind
  pub more : (x y : A) (xs : List A) (space text others behind : List ℕ) → AreSpaces space → P x text (others ++ behind) → All (y ∷ xs) others behind → All (x ∷ y ∷ xs) (space ++ (text ++ others)) behind

abbrev More : {A : Type 0} → (List A → List ℕ → List ℕ → Type 0) → List A → List ℕ → List ℕ → Type 0
More All [] text behind = Closing text
More All (x ∷ xs) text behind = All (x ∷ xs) text behind

joined : {A : Type 0} (P : A → List ℕ → List ℕ → Type 0) (All : List A → List ℕ → List ℕ → Type 0) → Makes P All → (x : A) (xs : List A) (space text others behind : List ℕ) → AreSpaces space → P x text (others ++ behind) → More All xs others behind → All (x ∷ xs) (space ++ (text ++ others)) behind
joined P All makes x [] space text others behind s h more =
    let shift : others ++ behind ≡ more.space ++ 41 ∷ behind = ap (λ xs. xs ++ behind) more.parts ∙ append_assoc more.space (41 ∷ []) behind in
    subst (λ o. All (x ∷ []) (space ++ (text ++ o)) behind) (sym more.parts) (makes.last x space text more.space behind s (subst (P x text) shift h) more.spaces)
joined P All makes x (y ∷ xs) space text others behind s h more = makes.more x y xs space text others behind s h more

regroup : (a b c d : List ℕ) → a ++ (b ++ (c ++ d)) ≡ (a ++ (b ++ c)) ++ d
regroup a b c d = simp append_assoc refl

joined_reads : {A : Type 0} (P : A → List ℕ → List ℕ → Type 0) (All : List A → List ℕ → List ℕ → Type 0) → Makes P All → (bytes : List ℕ) (x : A) (mid new : At) (xs : List A) → Spaced P bytes (x, mid) → Reads (More All) mid.bytes (xs, new) → Reads All bytes (x ∷ xs, new)
joined_reads P All makes bytes x mid new xs k m = record {
  text = k.space ++ (k.text ++ m.text);
  parts = k.parts ∙ ap (λ ys. k.space ++ (k.text ++ ys)) m.parts ∙ regroup k.space k.text m.text new.bytes;
  is = joined P All makes x xs k.space k.text m.text new.bytes k.spaces (subst (P x k.text) m.parts k.is) m.is;
}

as_more : {A : Type 0} (All : List A → List ℕ → List ℕ → Type 0) (bytes : List ℕ) (x : A) (xs : List A) (new : At) → Reads All bytes (x ∷ xs, new) → Reads (More All) bytes (x ∷ xs, new)
as_more All bytes x xs new k = record { text = k.text; parts = k.parts; is = k.is }

next_then_reads : {A : Type 0} (P : A → List ℕ → List ℕ → Type 0) (All : List A → List ℕ → List ℕ → Type 0) → Makes P All → (bytes : List ℕ) (r : Reading (Option A)) (rest : At → Reading (List A)) → AllRead (Next P bytes) r → ((new : At) → AllRead (Reads (More All) new.bytes) (rest new)) → AllRead (Reads (More All) bytes) (next_then r rest)
next_then_reads P All makes bytes (Ok (None, new)) rest k m = record { text = k.0 ++ 41 ∷ []; parts = k.1 ∙ sym (append_assoc k.0 (41 ∷ []) new.bytes); is = record { space = k.0; parts = refl; spaces = k.2 } }
next_then_reads P All makes bytes (Ok (Some x, new)) rest k m = bind_all (Reads (More All) new.bytes) (Reads (More All) bytes) (rest new) _ (m new) (λ y n. as_more All bytes x y.0 y.1 (joined_reads P All makes bytes x new y.1 y.0 k n))
next_then_reads P All makes bytes (Err fault) rest k m = tt

further_reads : {A : Type 0} (P : A → List ℕ → List ℕ → Type 0) (All : List A → List ℕ → List ℕ → Type 0) → Makes P All → (one : At → Reading A) → One P one → (turns : ℕ) (at : At) → AllRead (Reads (More All) at.bytes) (further (until_closing one) turns at)
unfolding further
further_reads P All makes one h zero at = tt
further_reads P All makes one h (suc turns) at = next_then_reads P All makes at.bytes (until_closing one at) _ (until_reads P one h at) (λ new. further_reads P All makes one h turns new)

pub first_reads : {A : Type 0} (P : A → List ℕ → List ℕ → Type 0) (one : At → Reading A) → One P one → (mark : ℕ) (at : At) → AllRead (Spaced P at.bytes) (first one mark at)
unfolding first
first_reads P one h mark at = if_all (Spaced P at.bytes) (begins 41 (spaced at).bytes) _ _ (λ e. tt) (λ e. weaker (Reads P (spaced at).bytes) (Spaced P at.bytes) (one (spaced at)) (h (spaced at)) (spaced_reads P at))

pub arguments_reads : {A : Type 0} (P : A → List ℕ → List ℕ → Type 0) (All : List A → List ℕ → List ℕ → Type 0) → Makes P All → (one next : At → Reading A) → One P one → One P next → (mark : ℕ) (at : At) → AllRead (Reads All at.bytes) (arguments one (until_closing next) mark at)
unfolding arguments following
arguments_reads P All makes one next h k mark at = bind_all (Spaced P at.bytes) (Reads All at.bytes) (first one mark at) _ (first_reads P one h mark at) (λ x m.
    bind_all (Reads (More All) x.1.bytes) (Reads All at.bytes) (further (until_closing next) 1000 x.1) _ (further_reads P All makes next k 1000 x.1) (λ y n. joined_reads P All makes at.bytes x.0 x.1 y.1 y.0 m n))
