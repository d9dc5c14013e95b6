-- Laws of little-endian fields: what is read after a write, fields in parts, and what stays.
use borrow.Author.Count.{below_more}
use Rattle.std.proofs.Common.{◌≡◌, ◌≢◌, ◌⊎◌, inl, inr, ℕ, zero, suc, ◌+◌, ◌-◌, ◌*◌, ◌/◌, ◌%◌, ◌^◌, ◌<◌, ◌≤◌, List, ◌++◌, length, take, drop, get_or, set, refl, ap, sym, ◌∙◌, arith, lit<, zero-add, [], ◌∷◌, map}
use Rattle.std.proofs.Math.Nat.{pow-suc, pow-succ', div-div-eq-div-mul, mod-eq_of_lt, mod-one, mul-le-mul_left, mul_comm, add_assoc, add-suc, mod-mod_of_dvd, dvd-mul_right, add-mul-mod_self_left, add-mul-div_left, div-eq_of_lt, mul-suc}
use Rattle.std.proofs.Math.Arith.{mod-mul}
use Rattle.std.proofs.lemmas.Bool.{cases_eq}
use Rattle.std.proofs.lemmas.Nat.{pow-add, mod_below, div-mul-add}
use Rattle.std.proofs.lemmas.List.{length-set, get_or-set_same, get_or-set_other, set-get_or, drop-set-lt, get_or-take, get_or-drop, set-append_left, set-append_right, take-append-drop, drop-drop, length-take-le, length-drop, take_more, take_all, take-map, length-map, get_or-map}
use Rattle.pd_kinds.specs.Field.{le, put}
use Rattle.pd_kinds.specs.Node.{puts}

-- the number of values of k bytes isn't 0
pub places_pos : (k : ℕ) → 0 < 256 ^ k
places_pos zero = lit< tt
places_pos (suc k) =
    let before = places_pos k in
    rw (pow-suc 256 k) (omega arith)

-- a digit below the j-th is that of the number's low j digits
pub digit_of_low : (v i j : ℕ) → i < j → v % 256 ^ j / 256 ^ i % 256 ≡ v / 256 ^ i % 256
digit_of_low v i j h =
    let m = 256 * 256 ^ (j - suc i) in
    let positive : 0 < m = omega (arith, places_pos (j - suc i)) in
    let count : suc (j - suc i) + i ≡ j = omega arith in
    let places : 256 ^ j ≡ m * 256 ^ i = sym (ap (λ (n : ℕ). 256 ^ n) count) ∙ (pow-add 256 (suc (j - suc i)) i ∙ ap (λ (n : ℕ). n * 256 ^ i) (pow-succ' 256 (j - suc i))) in
    let split = mod-mul v {m = m} {c = 256 ^ i} positive (places_pos i) in
    let high = div-mul-add (v / 256 ^ i % m) (256 ^ i) (v % 256 ^ i) (mod_below v (256 ^ i) (places_pos i)) in
    rw (places, split, high) (mod-mod_of_dvd 256 (v / 256 ^ i) (dvd-mul_right 256 (256 ^ (j - suc i))))

-- two fields whose bytes agree have one number
pub le_same : (b c : List ℕ) (o p k : ℕ) → ((i : ℕ) → i < k → get_or b (o + i) 0 ≡ get_or c (p + i) 0) → le b o k ≡ le c p k
unfolding le
le_same b c o p zero agree = refl
le_same b c o p (suc k) agree =
    let before = le_same b c o p k (λ i h. agree i (omega arith)) in
    let last = agree k (omega arith) in
    rw (before, last) refl

-- the number of a field is below the number of its values
pub le-lt : (b : List ℕ) (o k : ℕ) → ((i : ℕ) → get_or b i 0 < 256) → le b o k < 256 ^ k
unfolding le
le-lt b o zero bytes = lit< tt
le-lt b o (suc k) bytes =
    let before = le-lt b o k bytes in
    let last : get_or b (o + k) 0 ≤ 255 = omega (arith, bytes (o + k)) in
    let top = mul-le-mul_left (256 ^ k) last in
    rw (pow-suc 256 k) (omega arith)

-- a field in two parts, the low one first
pub le_join : (b : List ℕ) (o j k : ℕ) → le b o (j + k) ≡ le b o j + 256 ^ j * le b (o + j) k
unfolding le
le_join b o j zero =
    let none : j + 0 ≡ j = omega arith in
    rw none (omega arith)
le_join b o j (suc k) =
    let before = le_join b o j k in
    let place = add_assoc o j k in
    let size = pow-add 256 j k in
    rw (add-suc j k, before, place, size) (omega arith)

-- a field within a part of a block
pub le_part : (b : List ℕ) (o n p k : ℕ) → p + k ≤ n → le (take n (drop o b)) p k ≡ le b (o + p) k
le_part b o n p k within = le_same (take n (drop o b)) b p (o + p) k
    (λ i h. get_or-take n (drop o b) (p + i) 0 (omega arith) ∙ (get_or-drop o b (p + i) 0 ∙ ap (λ (at : ℕ). get_or b at 0) (sym (add_assoc o p i))))

-- a field whose bytes are a number's digits has that number
pub le_digits : (b : List ℕ) (o k v : ℕ) → ((i : ℕ) → i < k → get_or b (o + i) 0 ≡ v / 256 ^ i % 256) → le b o k ≡ v % 256 ^ k
unfolding le
le_digits b o zero v digits = sym (mod-one v)
le_digits b o (suc k) v digits =
    let before = le_digits b o k v (λ i h. digits i (omega arith)) in
    let last = digits k (omega arith) in
    let split = mod-mul v {m = 256} {c = 256 ^ k} (lit< tt) (places_pos k) in
    let swap = mul_comm (256 ^ k) (v / 256 ^ k % 256) in
    rw (pow-succ' 256 k, split, before, last, swap) (omega arith)

-- a write keeps the length
pub length-put : (b : List ℕ) (o k v : ℕ) → length (put b o k v) ≡ length b
unfolding put
length-put b o zero v = refl
length-put b o (suc k) v = length-set (put b o k v) (o + k) (v / 256 ^ k % 256) ∙ length-put b o k v

-- a byte outside the field stays
pub get_or-put_other : (b : List ℕ) (o k v j : ℕ) → ((j < o) ⊎ (o + k ≤ j)) → get_or (put b o k v) j 0 ≡ get_or b j 0
unfolding put
get_or-put_other b o zero v j apart = refl
get_or-put_other b o (suc k) v j apart =
    let other : j ≢ o + k = omega arith in
    get_or-set_other (put b o k v) (o + k) j (v / 256 ^ k % 256) 0 other
    ∙ get_or-put_other b o k v j (elim apart [ inl h ↦ inl h | inr h ↦ inr (omega arith) ])

-- a byte of the field is that digit of the number
pub get_or-put_same : (b : List ℕ) (o k v i : ℕ) → o + k ≤ length b → i < k → get_or (put b o k v) (o + i) 0 ≡ v / 256 ^ i % 256
unfolding put
get_or-put_same b o zero v i within h = absurd (omega arith)
get_or-put_same b o (suc k) v i within h =
    let len = length-put b o k v in
    elim (cases_eq i k) [
      | inl same ↦ rw same (get_or-set_same (put b o k v) (o + k) (v / 256 ^ k % 256) 0 (omega arith))
      | inr other ↦
          get_or-set_other (put b o k v) (o + k) (o + i) (v / 256 ^ k % 256) 0 (omega arith)
          ∙ get_or-put_same b o k v i (omega arith) (omega arith)
    ]

-- reading what was written, of any number
pub le-put_same : (b : List ℕ) (o k v : ℕ) → o + k ≤ length b → le (put b o k v) o k ≡ v % 256 ^ k
le-put_same b o k v within = le_digits (put b o k v) o k v (λ i h. get_or-put_same b o k v i within h)

-- reading what was written, of a number that fits
pub le-put : (b : List ℕ) (o k v : ℕ) → o + k ≤ length b → v < 256 ^ k → le (put b o k v) o k ≡ v
le-put b o k v within fits = le-put_same b o k v within ∙ mod-eq_of_lt fits

-- reading a field that was written beside
pub le-put_other : (b : List ℕ) (o k v p n : ℕ) → ((p + n ≤ o) ⊎ (o + k ≤ p)) → le (put b o k v) p n ≡ le b p n
le-put_other b o k v p n apart = le_same (put b o k v) b p p n
    (λ i h. get_or-put_other b o k v (p + i) (elim apart [ inl before ↦ inl (omega arith) | inr after ↦ inr (omega arith) ]))

-- a write takes the low digits of the number
pub put_low : (b : List ℕ) (o k v j : ℕ) → k ≤ j → put b o k (v % 256 ^ j) ≡ put b o k v
unfolding put
put_low b o zero v j within = refl
put_low b o (suc k) v j within =
    let before = put_low b o k v j (omega arith) in
    let last = digit_of_low v k j within in
    rw (before, last) refl

-- a write of a field in two parts, the low one first
pub put_join : (b : List ℕ) (o j k v : ℕ) → put b o (j + k) v ≡ put (put b o j v) (o + j) k (v / 256 ^ j)
unfolding put
put_join b o j zero v =
    let none : j + 0 ≡ j = omega arith in
    rw none refl
put_join b o j (suc k) v =
    let before = put_join b o j k v in
    let place = add_assoc o j k in
    let size = pow-add 256 j k in
    let digit = div-div-eq-div-mul v (256 ^ j) (256 ^ k) in
    rw (add-suc j k, before, place, size, digit) refl

-- writing what was read changes nothing
pub put-le : (b : List ℕ) (o k : ℕ) → ((i : ℕ) → get_or b i 0 < 256) → put b o k (le b o k) ≡ b
unfolding le put
put-le b o zero bytes = refl
put-le b o (suc k) bytes =
    let low = le b o k in
    let top = get_or b (o + k) 0 in
    let below = le-lt b o k bytes in
    let rest : (low + 256 ^ k * top) % 256 ^ k ≡ low = add-mul-mod_self_left low (256 ^ k) top ∙ mod-eq_of_lt below in
    let written : put b o k (low + 256 ^ k * top) ≡ b =
    sym (put_low b o k (low + 256 ^ k * top) k (omega arith)) ∙ (ap (λ (v : ℕ). put b o k v) rest ∙ put-le b o k bytes) in
    let digit : (low + 256 ^ k * top) / 256 ^ k % 256 ≡ top =
    ap (λ (v : ℕ). v % 256) (add-mul-div_left low top (places_pos k) ∙ (ap (λ (v : ℕ). v + top) (div-eq_of_lt below) ∙ zero-add top)) ∙ mod-eq_of_lt (bytes (o + k)) in
    rw (written, digit) (set-get_or b (o + k) 0)

-- what stands behind a write stays
pub drop-put : (b : List ℕ) (o k v n : ℕ) → o + k ≤ n → drop n (put b o k v) ≡ drop n b
unfolding put
drop-put b o zero v n within = refl
drop-put b o (suc k) v n within =
    drop-set-lt n (put b o k v) (o + k) (v / 256 ^ k % 256) (omega arith) ∙ drop-put b o k v n (omega arith)

-- a write into the first of two parts
pub put-append_left : (b c : List ℕ) (o k v : ℕ) → o + k ≤ length b → put (b ++ c) o k v ≡ put b o k v ++ c
unfolding put
put-append_left b c o zero v within = refl
put-append_left b c o (suc k) v within =
    let before = put-append_left b c o k v (omega arith) in
    let len = length-put b o k v in
    rw before (set-append_left (put b o k v) c (o + k) (v / 256 ^ k % 256) (omega arith))

-- a write into the second of two parts
pub put-append_right : (b c : List ℕ) (n o k v : ℕ) → length b ≡ n → put (b ++ c) (n + o) k v ≡ b ++ put c o k v
unfolding put
put-append_right b c n o zero v len = refl
put-append_right b c n o (suc k) v len =
    let before = put-append_right b c n o k v len in
    let place : n + o + k - n ≡ o + k = omega arith in
    rw before (set-append_right b (put c o k v) n (n + o + k) (v / 256 ^ k % 256) len (omega arith) ∙ ap (λ (i : ℕ). b ++ set (put c o k v) i (v / 256 ^ k % 256)) place)

-- a write into a part of a block, put back into its place
pub put_part : (b : List ℕ) (at n o k v : ℕ) → at + n ≤ length b → o + k ≤ n
    → take at b ++ (put (take n (drop at b)) o k v ++ drop (at + n) b) ≡ put b (at + o) k v
put_part b at n o k v within inside =
    let front = length-take-le at b (omega arith) in
    let behind = length-drop at b in
    let part : length (take n (drop at b)) ≡ n = length-take-le n (drop at b) (omega arith) in
    let rest : take n (drop at b) ++ drop (at + n) b ≡ drop at b =
    ap (λ (xs : List ℕ). take n (drop at b) ++ xs) (sym (drop-drop n at b)) ∙ take-append-drop n (drop at b) in
    let whole : take at b ++ (take n (drop at b) ++ drop (at + n) b) ≡ b =
    ap (λ (xs : List ℕ). take at b ++ xs) rest ∙ take-append-drop at b in
    let second = put-append_right (take at b) (take n (drop at b) ++ drop (at + n) b) at o k v front in
    let first = put-append_left (take n (drop at b)) (drop (at + n) b) o k v (omega arith) in
    ap (λ (xs : List ℕ). take at b ++ xs) (sym first) ∙ (sym second ∙ ap (λ (xs : List ℕ). put xs (at + o) k v) whole)

-- Fields put together from parts, and rows of numbers.

-- what stands above a low part
pub above_low : (v r limit : ℕ) → v < limit → (v + limit * r) / limit ≡ r
above_low v r limit small = add-mul-div_left v r (omega arith) ∙ (ap (λ (low : ℕ). low + r) (div-eq_of_lt small) ∙ zero-add r)

-- a number put together from two parts is written part by part
pub put_parts : (b : List ℕ) (o j k v r : ℕ) → v < 256 ^ j → put b o (j + k) (v + 256 ^ j * r) ≡ put (put b o j v) (o + j) k r
put_parts b o j k v r small =
    let high = above_low v r (256 ^ j) small in
    let low : (v + 256 ^ j * r) % 256 ^ j ≡ v = add-mul-mod_self_left v (256 ^ j) r ∙ mod-eq_of_lt small in
    let lows : put b o j (v + 256 ^ j * r) ≡ put b o j v =
    sym (put_low b o j (v + 256 ^ j * r) j (omega arith)) ∙ ap (λ (n : ℕ). put b o j n) low in
    rw (put_join b o j k (v + 256 ^ j * r), high, lows) refl

-- a row of numbers keeps the length
pub length-puts : (b : List ℕ) (o width : ℕ) (xs : List ℕ) → length (puts b o width xs) ≡ length b
unfolding puts
length-puts b o width [] = refl
length-puts b o width (x ∷ xs) = length-puts (put b o width x) (o + width) width xs ∙ length-put b o width x

-- a row with one number more
pub puts_more : (b : List ℕ) (o width : ℕ) (xs : List ℕ) (x : ℕ)
    → puts b o width (xs ++ x ∷ []) ≡ put (puts b o width xs) (o + width * length xs) width x
unfolding puts
puts_more b o width [] x =
    let place : o + width * 0 ≡ o = omega arith in
    rw place refl
puts_more b o width (y ∷ xs) x =
    let place : o + width + width * length xs ≡ o + width * suc (length xs) = omega (arith, mul-suc width (length xs)) in
    puts_more (put b o width y) (o + width) width xs x ∙ ap (λ (at : ℕ). put (puts (put b o width y) (o + width) width xs) at width x) place

-- a field before a row or behind it stays
pub le-puts_other : (b : List ℕ) (o width : ℕ) (xs : List ℕ) (p n : ℕ) → ((p + n ≤ o) ⊎ (o + width * length xs ≤ p)) → le (puts b o width xs) p n ≡ le b p n
unfolding puts
le-puts_other b o width [] p n apart = refl
le-puts_other b o width (x ∷ xs) p n apart =
    let ends = mul-suc width (length xs) in
    le-puts_other (put b o width x) (o + width) width xs p n (elim apart [ inl before ↦ inl (omega arith) | inr after ↦ inr (omega arith) ])
    ∙ le-put_other b o width x p n (elim apart [ inl before ↦ inl before | inr after ↦ inr (omega arith) ])

-- a number of a row is read back
pub le-puts : (b : List ℕ) (o width : ℕ) (xs : List ℕ) (i : ℕ) → o + width * length xs ≤ length b → i < length xs → get_or xs i 0 < 256 ^ width
    → le (puts b o width xs) (o + width * i) width ≡ get_or xs i 0
unfolding puts
le-puts b o width [] i within h small = absurd (omega arith)
le-puts b o width (x ∷ xs) zero within h small =
    let ends = mul-suc width (length xs) in
    let place : o + width * 0 ≡ o = omega arith in
    rw place (le-puts_other (put b o width x) (o + width) width xs o width (inl (omega arith)) ∙ le-put b o width x (omega arith) small)
le-puts b o width (x ∷ xs) (suc i) within h small =
    let ends = mul-suc width (length xs) in
    let len = length-put b o width x in
    let place : o + width * suc i ≡ o + width + width * i = omega (arith, mul-suc width i) in
    rw place (le-puts (put b o width x) (o + width) width xs i (omega arith) (omega arith) small)

-- a loop's step: a row of the numbers so far
pub puts_step : (b : List ℕ) (o width : ℕ) (xs : List ℕ) (i : ℕ) → i < length xs
    → puts b o width (take (i + 1) xs) ≡ put (puts b o width (take i xs)) (o + width * i) width (get_or xs i 0)
puts_step b o width xs i within =
    let count : length (take i xs) ≡ i = length-take-le i xs (omega arith) in
    let row = puts_more b o width (take i xs) (get_or xs i 0) in
    rw (take_more xs i 0 within) (rw count at row)

-- the same, of one number for each element
pub row_more : {X : Type 0} → (f : X → ℕ) (b : List ℕ) (o width : ℕ) (xs : List X) (i : ℕ) (d : X) → i < length xs
    → puts b o width (map f (take (i + 1) xs)) ≡ put (puts b o width (map f (take i xs))) (o + width * i) width (f (get_or xs i d))
row_more {X} f b o width xs i d within =
    let inside : i < length (map f xs) = rw (length-map xs f) within in
    rw (← take-map f (i + 1) xs, ← take-map f i xs, ← get_or-map f xs i d 0 within) (puts_step b o width (map f xs) i inside)

-- a loop's end: a row of one number for each element
pub row_all : {X : Type 0} → (f : X → ℕ) (b : List ℕ) (o width : ℕ) (xs : List X) (i : ℕ) → length xs ≤ i
    → puts b o width (map f (take i xs)) ≡ puts b o width (map f xs)
row_all {X} f b o width xs i all = ap (λ (ys : List X). puts b o width (map f ys)) (take_all i xs all)

-- a loop's step: each number so far is below a limit
pub row_below_more : {X : Type 0} → (f : X → ℕ) (limit : ℕ) (xs : List X) (i : ℕ) (d : X) → i < length xs → f (get_or xs i d) < limit
    → ((k : ℕ) → k < i → get_or (map f xs) k 0 < limit) → (k : ℕ) → k < i + 1 → get_or (map f xs) k 0 < limit
row_below_more {X} f limit xs i d within small below =
    let next : get_or (map f xs) i 0 < limit = rw (get_or-map f xs i d 0 within) small in
    below_more (λ k. get_or (map f xs) k 0 < limit) i below next
