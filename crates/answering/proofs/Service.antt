-- Bytes served: what a line more makes of them.
use Rattle.std.proofs.Common.{◌≡◌, ℕ, ◌+◌, ◌-◌, ◌≤◌, Bool, true, false, cond, List, [], ◌∷◌, ◌++◌, length, map, take, drop, min, Option, Some, None, IfSome, Result, Ok, Err, OnOk, OnErr, if◌then◌else◌, refl, sym, subst, ap, ◌∙◌, append_assoc, arith}
use Rattle.std.specs.Prelude.{option_map, nat_le}
use Rattle.std.specs.List.{concat}
use Rattle.std.specs.Io.KnownBytes.{Appends, Keeps, Consumes, IsAtEnd}
use Rattle.std.proofs.Math.Seq.{take-add, take-append-add, take-append_seam, take-length}
use Rattle.std.proofs.lemmas.List.{append-nil, length-drop, length-take, take-append-drop, take-append-le, take_all, take_min, take_rest}
use Rattle.std.proofs.lemmas.List.Folds.{concat-append}
use Rattle.lines.specs.Lines.{Reading, HasRead, after, line_end, lines_ahead, lines_of}
use Rattle.protocol.proofs.Texts.{first_bytes_suffice}
use Rattle.session.specs.Session.{Step, SessionState, answer, written, texts, beginning, done, state_after}
use Rattle.answering.specs.Output.{AppendsFront, FrontWritten, Served, ServedAll, output_of, text_of, whole_lines}

-- ---- known bytes
appends_more : (a b c : Option (List ℕ)) (xs ys : List ℕ) → Appends a b xs → Appends b c ys → Appends a c (xs ++ ys)
appends_more None b c xs ys h k = tt
appends_more (Some s) None c xs ys h k = absurd h
appends_more (Some s) (Some t) None xs ys h k = absurd k
appends_more (Some s) (Some t) (Some u) xs ys h k = k ∙ ap (λ l. l ++ ys) h ∙ append_assoc s xs ys

pub appends_kept : (a b c : Option (List ℕ)) (xs : List ℕ) → Appends a b xs → Keeps b c → Appends a c xs
appends_kept None b c xs h k = tt
appends_kept (Some s) None c xs h k = absurd h
appends_kept (Some s) (Some t) None xs h k = absurd k
appends_kept (Some s) (Some t) (Some u) xs h k = k ∙ h

pub kept_consumes : (a b c : Option (List ℕ)) (xs : List ℕ) → Keeps a b → Consumes b c xs → Consumes a c xs
kept_consumes None b c xs h k = tt
kept_consumes (Some s) None c xs h k = absurd h
kept_consumes (Some s) (Some t) None xs h k = absurd k
kept_consumes (Some s) (Some t) (Some u) xs h k = sym h ∙ k

pub kept_twice : (a b c : Option (List ℕ)) → Keeps a b → Keeps b c → Keeps a c
kept_twice None b c h k = tt
kept_twice (Some s) None c h k = absurd h
kept_twice (Some s) (Some t) None h k = absurd k
kept_twice (Some s) (Some t) (Some u) h k = k ∙ h

pub consumes_more : (a b c : Option (List ℕ)) (xs ys : List ℕ) → Consumes a b xs → Consumes b c ys → Consumes a c (xs ++ ys)
consumes_more None b c xs ys h k = tt
consumes_more (Some s) None c xs ys h k = absurd h
consumes_more (Some s) (Some t) None xs ys h k = absurd k
consumes_more (Some s) (Some t) (Some u) xs ys h k = h ∙ ap (λ l. xs ++ l) k ∙ sym (append_assoc xs ys u)

-- ---- a front part of a text
front_of : (a b : Option (List ℕ)) (xs ys : List ℕ) → Appends a b xs → AppendsFront a b (xs ++ ys)
front_of a b xs ys h = (length xs, subst (Appends a b) (sym (take-append_seam xs ys)) h)

front_whole : (a b : Option (List ℕ)) (xs : List ℕ) → Appends a b xs → AppendsFront a b xs
front_whole a b xs h = (length xs, subst (Appends a b) (sym (take-length xs)) h)

pub front_at : (a b : Option (List ℕ)) (text : List ℕ) (i : ℕ) → Appends a b (take i text) → AppendsFront a b text
front_at a b text i h = (i, h)

front_after : (a b c : Option (List ℕ)) (xs ys zs : List ℕ) → Appends a b xs → AppendsFront b c ys → AppendsFront a c (xs ++ (ys ++ zs))
front_after a b c xs ys zs h k =
    let n = min k.0 (length ys) in
    let few : n ≤ length ys = omega arith in
    let is : take (length xs + n) (xs ++ (ys ++ zs)) ≡ xs ++ take k.0 ys =
    take-append-add xs (ys ++ zs) n ∙ ap (λ t. xs ++ t) (take-append-le n ys zs few ∙ take_min k.0 ys) in
    (length xs + n, subst (Appends a c) (sym is) (appends_more a b c xs (take k.0 ys) h k.1))

-- n bytes more of a text
pub more_written : (a b c : Option (List ℕ)) (text : List ℕ) (i n : ℕ) → Appends a b (take i text) → Appends b c (take n (take (length text - i) (drop i text))) → Appends a c (take (i + n) text)
more_written a b c text i n h k =
    subst (Appends a c) (sym (take-add i n text))
    (appends_more a b c (take i text) (take n (drop i text)) h (subst (λ t. Appends b c (take n t)) (take_rest text i) k))

pub all_text : (a b : Option (List ℕ)) (text : List ℕ) (i : ℕ) → length text ≤ i → Appends a b (take i text) → Appends a b text
all_text a b text i h k = subst (Appends a b) (take_all i text h) k

-- ---- a line more
pub appends_nothing : (w : Option (List ℕ)) → Appends w w []
appends_nothing None = tt
appends_nothing (Some s) = sym (append-nil s)

pub new_served : (r : Reading) (s : SessionState) (w : Option (List ℕ)) → HasRead r [] [] → s ≡ beginning → Served r s w w []
new_served r s w reads is = record { given = []; has_read = reads; taken = is; answered = appends_nothing w }

state_more : (s : SessionState) (ls : List (List ℕ)) (line : List ℕ) → state_after s (ls ++ line ∷ []) ≡ (answer (state_after s ls) line).state
state_more s [] line = refl
state_more s (l ∷ ls) line = state_more (answer s l).state ls line

texts_more : (s : SessionState) (ls : List (List ℕ)) (line : List ℕ) → texts s (ls ++ line ∷ []) ≡ texts s ls ++ (answer (state_after s ls) line).text ∷ []
texts_more s [] line = refl
texts_more s (l ∷ ls) line = ap (λ ts. (answer s l).text ∷ ts) (texts_more (answer s l).state ls line)

text_more : (ls : List (List ℕ)) (line : List ℕ) → text_of (ls ++ line ∷ []) ≡ text_of ls ++ (answer (state_after beginning ls) line).text
text_more ls line =
    ap concat (texts_more beginning ls line) ∙ concat-append (texts beginning ls) ((answer (state_after beginning ls) line).text ∷ [])
    ∙ ap (λ t. text_of ls ++ t) (append-nil (answer (state_after beginning ls) line).text)

text_served : (r : Reading) (s : SessionState) (first w : Option (List ℕ)) (fed line : List ℕ) (so : Served r s first w fed)
    → text_of so.given ++ (answer s line).text ≡ text_of (so.given ++ line ∷ [])
text_served r s first w fed line so = ap (λ t. text_of so.given ++ (answer t line).text) so.taken ∙ sym (text_more so.given line)

-- ---- a line is answered as its first bytes are
answer_first : (s : SessionState) (line : List ℕ) → answer s (take 201 line) ≡ answer s line
answer_first s line =
    ap (λ c. if nat_le 999999 s.lines then (record { text = []; state = s }) else written (s.lines + 1) (done s.log s.page c)) (first_bytes_suffice line)

texts_first : (s : SessionState) (ls : List (List ℕ)) → texts s (map (take 201) ls) ≡ texts s ls
texts_first s [] = refl
texts_first s (l ∷ ls) =
    ap (λ (a : Step). a.text ∷ texts a.state (map (take 201) ls)) (answer_first s l)
    ∙ ap (λ ts. (answer s l).text ∷ ts) (texts_first (answer s l).state ls)

output_is : (input : List ℕ) → text_of (lines_of input) ≡ output_of input
output_is input = ap concat (texts_first beginning (whole_lines input))

pub line_served : (r now : Reading) (s next : SessionState) (first w more : Option (List ℕ)) (fed part line : List ℕ)
    → Served r s first w fed
    → ((given : List (List ℕ)) → HasRead r fed given → HasRead now (fed ++ part) (given ++ line ∷ []))
    → next ≡ (answer s line).state → Appends w more (answer s line).text
    → Served now next first more (fed ++ part)
line_served r now s next first w more fed part line so reads goes wrote =
    record {
      given = so.given ++ line ∷ [];
      has_read = reads so.given so.has_read;
      taken = goes ∙ ap (λ t. (answer t line).state) so.taken ∙ sym (state_more beginning so.given line);
      answered = subst (Appends first more) (text_served r s first w fed line so) (appends_more first w more (text_of so.given) (answer s line).text so.answered wrote);
    }

-- ---- a chunk
pub length_cut : (rest : List ℕ) (n : ℕ) → length (take (length rest - n) (drop n rest)) ≡ length rest - n
length_cut rest n = omega (arith, length-take (length rest - n) (drop n rest), length-drop n rest)

pub chunk_cut : (part rest chunk : List ℕ) (n : ℕ) → part ++ rest ≡ chunk → (part ++ take n rest) ++ take (length rest - n) (drop n rest) ≡ chunk
chunk_cut part rest chunk n is =
    append_assoc part (take n rest) (take (length rest - n) (drop n rest))
    ∙ ap (λ t. part ++ (take n rest ++ t)) (take_all (length rest - n) (drop n rest) (omega (arith, length-drop n rest)))
    ∙ ap (λ t. part ++ t) (take-append-drop n rest) ∙ is

left_at : (r now : Reading) (xs : List ℕ) (n : ℕ) (o : Option ℕ) → Some n ≡ option_map (λ i. i + 1) o → now ≡ after r xs o → now.bytes_left ≡ r.bytes_left - n
left_at r now xs n None e is = cc
left_at r now xs n (Some i) e is = let f : i + 1 ≡ n = cc in ap (λ s. s.bytes_left) is ∙ ap (λ k. r.bytes_left - k) f

pub left_after : (r now : Reading) (xs : List ℕ) (n : ℕ) → Some n ≡ option_map (λ i. i + 1) (line_end r xs) → now ≡ after r xs (line_end r xs) → now.bytes_left ≡ r.bytes_left - n
left_after r now xs n e is = left_at r now xs n (line_end r xs) e is

-- ---- between chunks
pub served_kept : (r : Reading) (s : SessionState) (first w more : Option (List ℕ)) (fed : List ℕ) → Served r s first w fed → Keeps w more → Served r s first more fed
served_kept r s first w more fed so kept =
    record { given = so.given; has_read = so.has_read; taken = so.taken; answered = appends_kept first w more (text_of so.given) so.answered kept }

-- no further bytes count: what is left of the input gives no lines
pub all_when_full : (r : Reading) (s : SessionState) (first w input rest : Option (List ℕ)) (fed : List ℕ)
    → Served r s first w fed → Consumes input rest fed → ((xs : List ℕ) → lines_ahead r xs ≡ lines_ahead r []) → ServedAll r s first w input
all_when_full r s first w None rest fed so read full = record { fed = fed; served = so; all = tt }
all_when_full r s first w (Some xs) None fed so read full = absurd read
all_when_full r s first w (Some xs) (Some ys) fed so read full = record {
  fed = fed;
  served = so;
  all = ap lines_of (sym (append-nil fed)) ∙ sym (so.has_read []) ∙ ap (λ ls. so.given ++ ls) (sym (full ys)) ∙ so.has_read ys ∙ ap lines_of (sym read);
}

-- a read of nothing, at the end of the input
pub all_at_end : (r : Reading) (s : SessionState) (first w input mid rest : Option (List ℕ)) (fed part : List ℕ) (n : ℕ)
    → Served r s first w fed → Consumes input mid fed → Consumes mid rest (take n part) → n ≡ 0 → IsAtEnd rest → ServedAll r s first w input
all_at_end r s first w None mid rest fed part n so read last none end = record { fed = fed; served = so; all = tt }
all_at_end r s first w (Some xs) None rest fed part n so read last none end = absurd read
all_at_end r s first w (Some xs) (Some ys) None fed part n so read last none end = absurd last
all_at_end r s first w (Some xs) (Some ys) (Some zs) fed part n so read last none end =
    let nothing : ys ≡ [] = last ∙ ap (λ k. take k part ++ zs) none ∙ end in
    record { fed = fed; served = so; all = ap lines_of (sym (append-nil fed) ∙ ap (λ t. fed ++ t) (sym nothing) ∙ sym read) }

-- ---- the end
pub last_served : (r : Reading) (s : SessionState) (first w more : Option (List ℕ)) (fed line : List ℕ) (left : Bool)
    → Served r s first w fed
    → ((given : List (List ℕ)) → HasRead r fed given → given ++ cond left (line ∷ []) [] ≡ lines_of fed)
    → left ≡ true → Appends w more (answer s line).text → Appends first more (output_of fed)
last_served r s first w more fed line left so reads some wrote =
    let whole : so.given ++ line ∷ [] ≡ lines_of fed = ap (λ b. so.given ++ cond b (line ∷ []) []) (sym some) ∙ reads so.given so.has_read in
    subst (Appends first more) (text_served r s first w fed line so ∙ ap text_of whole ∙ output_is fed) (appends_more first w more (text_of so.given) (answer s line).text so.answered wrote)

pub none_left : (r : Reading) (s : SessionState) (first w : Option (List ℕ)) (fed line : List ℕ) (left : Bool)
    → Served r s first w fed
    → ((given : List (List ℕ)) → HasRead r fed given → given ++ cond left (line ∷ []) [] ≡ lines_of fed)
    → left ≡ false → Appends first w (output_of fed)
none_left r s first w fed line left so reads none =
    let whole : so.given ≡ lines_of fed = sym (append-nil so.given) ∙ ap (λ b. so.given ++ cond b (line ∷ []) []) (sym none) ∙ reads so.given so.has_read in
    subst (Appends first w) (ap text_of whole ∙ output_is fed) so.answered

output_all : (fed bytes : List ℕ) → lines_of fed ≡ lines_of bytes → output_of fed ≡ output_of bytes
output_all fed bytes e = sym (output_is fed) ∙ ap text_of e ∙ output_is bytes

pub all_written : (r : Reading) (s : SessionState) (first w more flushed input : Option (List ℕ))
    → ServedAll r s first w input → ((fed : List ℕ) → Served r s first w fed → Appends first more (output_of fed)) → Keeps more flushed
    → IfSome input (λ bytes. Appends first flushed (output_of bytes))
all_written r s first w more flushed None so last kept = tt
all_written r s first w more flushed (Some bytes) so last kept =
    subst (Appends first flushed) (output_all so.fed bytes so.all) (appends_kept first more flushed (output_of so.fed) (last so.fed so.served) kept)

pub on_ok : {T E P : Type 0} (r : Result T E) → P → OnOk r P
on_ok (Ok x) p = p
on_ok (Err e) p = tt

pub on_err : {T E P : Type 0} (r : Result T E) → P → OnErr r P
on_err (Ok x) p = tt
on_err (Err e) p = p

-- ---- where reading or writing fails
texts_append : (s : SessionState) (ls more : List (List ℕ)) → texts s (ls ++ more) ≡ texts s ls ++ texts (state_after s ls) more
texts_append s [] more = refl
texts_append s (l ∷ ls) more = ap (λ ts. (answer s l).text ∷ ts) (texts_append (answer s l).state ls more)

text_append : (ls more : List (List ℕ)) → text_of (ls ++ more) ≡ text_of ls ++ concat (texts (state_after beginning ls) more)
text_append ls more = ap concat (texts_append beginning ls more) ∙ concat-append (texts beginning ls) (texts (state_after beginning ls) more)

pub served_front : (r : Reading) (s : SessionState) (first w : Option (List ℕ)) (fed : List ℕ) → Served r s first w fed → FrontWritten first w fed
served_front r s first w fed so xs =
    let ahead = lines_ahead r xs in
    subst (AppendsFront first w) (sym (text_append so.given ahead) ∙ ap text_of (so.has_read xs) ∙ output_is (fed ++ xs))
    (front_of first w (text_of so.given) (concat (texts (state_after beginning so.given) ahead)) so.answered)

pub line_front : (r now : Reading) (s : SessionState) (first w more : Option (List ℕ)) (fed part line : List ℕ)
    → Served r s first w fed
    → ((given : List (List ℕ)) → HasRead r fed given → HasRead now (fed ++ part) (given ++ line ∷ []))
    → AppendsFront w more (answer s line).text
    → FrontWritten first more (fed ++ part)
line_front r now s first w more fed part line so reads wrote xs =
    let ls = so.given ++ line ∷ [] in
    let ahead = lines_ahead now xs in
    let rest = concat (texts (state_after beginning ls) ahead) in
    subst (AppendsFront first more)
    (sym (append_assoc (text_of so.given) (answer s line).text rest) ∙ ap (λ t. t ++ rest) (text_served r s first w fed line so)
    ∙ sym (text_append ls ahead) ∙ ap text_of (reads so.given so.has_read xs) ∙ output_is ((fed ++ part) ++ xs))
    (front_after first w more (text_of so.given) (answer s line).text rest so.answered wrote)

-- after n bytes more of a chunk, so also after all of it
pub chunk_front : (first w : Option (List ℕ)) (fed part rest chunk : List ℕ) (n : ℕ) → part ++ rest ≡ chunk → FrontWritten first w ((fed ++ part) ++ take n rest) → FrontWritten first w (fed ++ chunk)
chunk_front first w fed part rest chunk n is front xs =
    let more = take (length rest - n) (drop n rest) in
    let whole : ((fed ++ part) ++ take n rest) ++ (more ++ xs) ≡ (fed ++ chunk) ++ xs =
    sym (append_assoc ((fed ++ part) ++ take n rest) more xs)
    ∙ ap (λ t. t ++ xs) (ap (λ t. t ++ more) (append_assoc fed part (take n rest)) ∙ append_assoc fed (part ++ take n rest) more ∙ ap (λ t. fed ++ t) (chunk_cut part rest chunk n is)) in
    subst (λ t. AppendsFront first w (output_of t)) whole (front (more ++ xs))

pub input_front : (first w input rest : Option (List ℕ)) (fed : List ℕ) → Consumes input rest fed → FrontWritten first w fed → IfSome input (λ bytes. AppendsFront first w (output_of bytes))
input_front first w None rest fed read front = tt
input_front first w (Some xs) None fed read front = absurd read
input_front first w (Some xs) (Some ys) fed read front = subst (λ t. AppendsFront first w (output_of t)) (sym read) (front ys)

pub last_front : (r : Reading) (s : SessionState) (first w more : Option (List ℕ)) (fed line : List ℕ) (left : Bool)
    → Served r s first w fed
    → ((given : List (List ℕ)) → HasRead r fed given → given ++ cond left (line ∷ []) [] ≡ lines_of fed)
    → left ≡ true → AppendsFront w more (answer s line).text → AppendsFront first more (output_of fed)
last_front r s first w more fed line left so reads some wrote =
    let whole : so.given ++ line ∷ [] ≡ lines_of fed = ap (λ b. so.given ++ cond b (line ∷ []) []) (sym some) ∙ reads so.given so.has_read in
    subst (AppendsFront first more)
    (ap (λ t. text_of so.given ++ t) (append-nil (answer s line).text) ∙ text_served r s first w fed line so ∙ ap text_of whole ∙ output_is fed)
    (front_after first w more (text_of so.given) (answer s line).text [] so.answered wrote)

pub all_front : (r : Reading) (s : SessionState) (first w more input : Option (List ℕ))
    → ServedAll r s first w input → ((fed : List ℕ) → Served r s first w fed → AppendsFront first more (output_of fed))
    → IfSome input (λ bytes. AppendsFront first more (output_of bytes))
all_front r s first w more None so last = tt
all_front r s first w more (Some bytes) so last = subst (AppendsFront first more) (output_all so.fed bytes so.all) (last so.fed so.served)

pub whole_front : (first w input : Option (List ℕ)) → IfSome input (λ bytes. Appends first w (output_of bytes)) → IfSome input (λ bytes. AppendsFront first w (output_of bytes))
whole_front first w None h = tt
whole_front first w (Some bytes) h = front_whole first w (output_of bytes) h

pub nothing_front : (w input : Option (List ℕ)) → IfSome input (λ bytes. AppendsFront w w (output_of bytes))
nothing_front w None = tt
nothing_front w (Some bytes) = (0, appends_nothing w)
