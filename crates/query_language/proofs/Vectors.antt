-- Worked texts, computed by the definitions alone.
use Rattle.std.proofs.Common.{◌≡◌, [], ◌∷◌, Ok, Err, None, refl}
use Rattle.std.specs.Prelude.{codes, false}
use Rattle.ri_base.specs.Expression as x
use Rattle.ri_base.specs.Query as q
use Rattle.ri_base.specs.declared.query.Range.TheVariants.{Whole, Passages}
use Rattle.query_reader.specs.QueryText.{query_text, expr_text}
use Rattle.query_reader.specs.declared.fault.QueryKind.TheVariants.{Expected, UnknownOperator, BadNumber, EmptyTerm, EmptyOperator, FilterInside, WindowInside, ContextInside, BadField, WeightTooLong, NotYetBuilt}
use Rattle.query_language.proofs.Computing.{reading}

q1 : query_text (codes "#1(a") ≡ Err (Expected, 4)
unfolding reading
q1 = refl

q2 : query_text (codes "#comb(a)") ≡ Err (UnknownOperator, 0)
unfolding reading
q2 = refl

q3 : query_text (codes "#or(a b)") ≡ Err (UnknownOperator, 0)
unfolding reading
q3 = refl

q4 : query_text (codes "#1()") ≡ Err (EmptyOperator, 0)
unfolding reading
q4 = refl

q5 : query_text (codes "#0(a b)") ≡ Err (BadNumber, 1)
unfolding reading
q5 = refl

q6 : query_text (codes "!") ≡ Err (EmptyTerm, 0)
unfolding reading
q6 = refl

q7 : query_text (codes "#combine(a #filreq(b c))") ≡ Err (FilterInside, 11)
unfolding reading
q7 = refl

q8 : query_text (codes "#max(a #combine[t](b))") ≡ Err (WindowInside, 7)
unfolding reading
q8 = refl

q9 : query_text (codes "#1(a.(t) b)") ≡ Err (ContextInside, 4)
unfolding reading
q9 = refl

q10 : query_text (codes "a.9") ≡ Err (BadField, 2)
unfolding reading
q10 = refl

q11 : query_text (codes "#weight(1234567 a)") ≡ Err (WeightTooLong, 8)
unfolding reading
q11 = refl

q12 : query_text [] ≡ Err (Expected, 0)
unfolding reading
q12 = refl

q13 : query_text (codes "b*") ≡ Err (NotYetBuilt, 0)
unfolding reading
q13 = refl

q14 : query_text (codes "a.t,u") ≡ Err (NotYetBuilt, 3)
unfolding reading
q14 = refl

q15 : query_text (codes "#filreq(a) ") ≡ Err (Expected, 9)
unfolding reading
q15 = refl

q16 : query_text (codes "#prior( x)") ≡ Err (BadField, 7)
unfolding reading
q16 = refl

q17 : query_text (codes "#weight(1 )") ≡ Err (Expected, 10)
unfolding reading
q17 = refl

x1 : expr_text (codes "#1(a") ≡ Err (Expected, 4)
unfolding reading
x1 = refl

x2 : expr_text (codes "#comb(a)") ≡ Err (UnknownOperator, 0)
unfolding reading
x2 = refl

x3 : expr_text (codes "#1()") ≡ Err (EmptyOperator, 0)
unfolding reading
x3 = refl

x4 : expr_text (codes "#0(a b)") ≡ Err (BadNumber, 1)
unfolding reading
x4 = refl

x5 : expr_text (codes "!") ≡ Err (EmptyTerm, 0)
unfolding reading
x5 = refl

x6 : expr_text (codes "#1(a.(t) b)") ≡ Err (ContextInside, 4)
unfolding reading
x6 = refl

x7 : expr_text (codes "a.9") ≡ Err (BadField, 2)
unfolding reading
x7 = refl

x8 : expr_text [] ≡ Err (Expected, 0)
unfolding reading
x8 = refl

x9 : expr_text (codes "#combine(a #filreq(b c))") ≡ Err (Expected, 0)
unfolding reading
x9 = refl

x10 : expr_text (codes "#max(a #combine[t](b))") ≡ Err (Expected, 0)
unfolding reading
x10 = refl

x11 : expr_text (codes "#weight(1234567 a)") ≡ Err (Expected, 0)
unfolding reading
x11 = refl

weighted : query_text (codes "#weight(0.8 a.T 2 #prior(R))") ≡ Ok (record { filters = []; range = Whole; beliefs = q.weight (q.more_weighted 800000000 (q.leaf (x.in_field (x.word (codes "a")) (codes "t")) None) (q.more_weighted 2000000000 (q.prior (codes "r")) q.none_weighted)) ∷ [] })
unfolding reading
weighted = refl

filtered : query_text (codes "#filrej(a #combine[passage8:4](b))") ≡ Ok (record { filters = record { keep = false; expr = x.word (codes "a") } ∷ []; range = Passages 8 4; beliefs = q.leaf (x.word (codes "b")) None ∷ [] })
unfolding reading
filtered = refl

nested : expr_text (codes "#uw5(a-b #any:T).x ") ≡ Ok (x.in_field (x.unordered 5 (x.more (x.ordered 1 (x.more (x.word (codes "a")) (x.more (x.word (codes "b")) x.none))) (x.more (x.any (codes "t")) x.none))) (codes "x"))
unfolding reading
nested = refl

no_weight : query_text (codes "#weight(#foo(a))") ≡ Err (BadNumber, 8)
unfolding reading
no_weight = refl
