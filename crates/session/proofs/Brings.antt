-- What a line brings is of bytes: pairs of hex digits write nothing else.
use Rattle.std.proofs.Common.{ℕ, ◌<◌, Bool, true, false, List, [], ◌∷◌, Option, Some, None, option_map, if◌then◌else◌, arith}
use Rattle.std.specs.Prelude.{IfSome}
use Rattle.std.proofs.lemmas.Bool.Decides.{nat_tests}
use Rattle.ublock.specs.Laws.{Bytes}
use Rattle.beatlog.specs.Calls.{OfBytes}
use Rattle.protocol.specs.Fields.{fields, alone, number_of, bytes_of, engine_of, mode_of, hex_digit_of, ◌>>=◌}
use Rattle.protocol.specs.Lines.{command_of, of_fields, of_letter, new_of, new_from, append_of, amend_of, cut_of, read_of, show_of, number_alone}
use Rattle.protocol.specs.declared.command.Command.{Command}
use Rattle.protocol.specs.declared.command.Command.TheVariants.{New, Log}
use Rattle.protocol.specs.declared.command.NewLog.{NewLog}
use Rattle.protocol.specs.declared.command.LogCommand.{LogCommand}
use Rattle.session.specs.Session.{call_of}

-- key and start block, or reading
abbrev NewBrings : NewLog → Type 0
NewBrings n = Bytes n.key × Bytes n.start

abbrev pub Brings : ℕ → ℕ → Command → Type 0
Brings b page (New n) = NewBrings n
Brings b page (Log command) = OfBytes (call_of b page command)

-- ---- what holds of the last value of a row of steps
step : {A B : Type 0} (Q : B → Type 0) (o : Option A) (f : A → Option B) → ((x : A) → IfSome (f x) Q) → IfSome (o >>= f) Q
step Q None f h = tt
step Q (Some x) f h = h x

step_with : {A B : Type 0} (P : A → Type 0) (Q : B → Type 0) (o : Option A) (f : A → Option B) → IfSome o P → ((x : A) → P x → IfSome (f x) Q) → IfSome (o >>= f) Q
step_with P Q None f g h = tt
step_with P Q (Some x) f g h = h x g

either : {A : Type 0} (Q : A → Type 0) (test : Bool) (x y : Option A) → IfSome x Q → IfSome y Q → IfSome (if test then x else y) Q
either Q true x y g h = g
either Q false x y g h = h

-- ---- bytes
digit_small : (c : ℕ) → IfSome (hex_digit_of c) (λ d. d < 16)
digit_small c = grind (arith, nat_tests)

bytes_are : (cs : List ℕ) → IfSome (bytes_of cs) Bytes
unfolding bytes_of
bytes_are [] = tt
bytes_are (c ∷ []) = tt
bytes_are (c ∷ d ∷ cs) =
    step_with (λ high. high < 16) Bytes (hex_digit_of c) _ (digit_small c) (λ high hc.
    step_with (λ low. low < 16) Bytes (hex_digit_of d) _ (digit_small d) (λ low hd.
    step_with Bytes Bytes (bytes_of cs) _ (bytes_are cs) (λ more h. (omega arith, h))))

module _ (b page : ℕ) where
  abbrev Called : LogCommand → Type 0
  Called command = OfBytes (call_of b page command)

  new_brings : (fs : List (List ℕ)) → IfSome (new_of fs) NewBrings
  unfolding new_of new_from
  new_brings [] = tt
  new_brings (v ∷ []) = tt
  new_brings (v ∷ e ∷ []) = tt
  new_brings (v ∷ e ∷ m ∷ []) = tt
  new_brings (v ∷ e ∷ m ∷ n ∷ []) = tt
  new_brings (v ∷ e ∷ m ∷ n ∷ k ∷ []) = tt
  new_brings (v ∷ e ∷ m ∷ n ∷ k ∷ s ∷ []) =
      let Q = NewBrings in
      step Q (number_of v) _ (λ x. step Q (engine_of e) _ (λ y. step Q (mode_of m) _ (λ z. step Q (number_of n) _ (λ w.
      step_with Bytes Q (bytes_of k) _ (bytes_are k) (λ key hk. step_with Bytes Q (bytes_of s) _ (bytes_are s) (λ start hs. (hk, hs)))))))
  new_brings (v ∷ e ∷ m ∷ n ∷ k ∷ s ∷ t ∷ fs) = tt

  append_brings : (fs : List (List ℕ)) → IfSome (append_of fs) Called
  unfolding append_of
  append_brings fs = step Called (alone fs) _ (λ f. step_with Bytes Called (bytes_of f) _ (bytes_are f) (λ r h. h))

  amend_brings : (fs : List (List ℕ)) → IfSome (amend_of fs) Called
  unfolding amend_of
  amend_brings [] = tt
  amend_brings (i ∷ []) = tt
  amend_brings (i ∷ f ∷ []) = step Called (number_of i) _ (λ n. step_with Bytes Called (bytes_of f) _ (bytes_are f) (λ r h. h))
  amend_brings (i ∷ f ∷ g ∷ fs) = tt

  cut_brings : (fs : List (List ℕ)) → IfSome (cut_of fs) Called
  unfolding cut_of
  cut_brings fs = step Called (number_alone fs) _ (λ n. tt)

  read_brings : (fs : List (List ℕ)) → IfSome (read_of fs) Called
  unfolding read_of
  read_brings fs = step Called (number_alone fs) _ (λ n. tt)

  show_brings : (fs : List (List ℕ)) → IfSome (show_of fs) Called
  unfolding show_of
  show_brings fs = step Called (number_alone fs) _ (λ n. tt)

  of_new : (o : Option NewLog) → IfSome o NewBrings → IfSome (option_map New o) (Brings b page)
  of_new None h = tt
  of_new (Some n) h = h

  of_log : (o : Option LogCommand) → IfSome o Called → IfSome (option_map Log o) (Brings b page)
  of_log None h = tt
  of_log (Some command) h = h

  letter_brings : (c : ℕ) (fs : List (List ℕ)) → IfSome (of_letter c fs) (Brings b page)
  letter_brings c fs =
      let n = of_new (new_of fs) (new_brings fs) in
      let a = of_log (append_of fs) (append_brings fs) in
      let m = of_log (amend_of fs) (amend_brings fs) in
      let t = of_log (cut_of fs) (cut_brings fs) in
      let r = of_log (read_of fs) (read_brings fs) in
      let w = of_log (show_of fs) (show_brings fs) in
      grind (arith, nat_tests, n, a, m, t, r, w)

  fields_bring : (fs : List (List ℕ)) → IfSome (of_fields fs) (Brings b page)
  unfolding of_fields
  fields_bring [] = tt
  fields_bring ([] ∷ fs) = tt
  fields_bring ((c ∷ []) ∷ fs) = letter_brings c fs
  fields_bring ((c ∷ d ∷ cs) ∷ fs) = tt

  pub line_brings : (line : List ℕ) → IfSome (command_of line) (Brings b page)
  unfolding command_of
  line_brings line = either (Brings b page) _ None (of_fields (fields line)) tt (fields_bring (fields line))
