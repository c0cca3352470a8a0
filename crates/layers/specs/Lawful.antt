-- A layer over an engine keeps the laws of an engine. These lemmas stand here since a law that an impl proves may cite no file
-- of its crate but those of specs/.
use Rattle.std.specs.Prelude.{◌≡◌, ℕ, ◌<◌, List, length, take, slice_index}
use Rattle.std.proofs.Common.{ap, ◌∙◌}
use Rattle.ublock.specs.Cipher.{xor}
use Rattle.ublock.specs.Laws.{Bytes, Block, Permutes}
use Rattle.ublock.proofs.Bytes.{bytes_from, xor_twice, length-xor, block-xor, bytes-take}
use Rattle.layers.specs.Layers.{whitened}

-- ---- a permutation the other way round
inverse_permutes : (b : ℕ) (enc dec : List ℕ → List ℕ) → Permutes b enc dec → Permutes b dec enc
inverse_permutes b enc dec p = record {
  enc_long = p.dec_long;
  dec_long = p.enc_long;
  enc_block = p.dec_block;
  dec_block = p.enc_block;
  dec_enc = p.enc_dec;
  enc_dec = p.dec_enc;
}

-- ---- between two values
module _ (b : ℕ) (v w : List ℕ) (enc dec : List ℕ → List ℕ) (p : Permutes b enc dec) (bytes_v : Bytes v) (bytes_w : Bytes w) where
  whitened_long : (x : List ℕ) → length x ≡ b → length (whitened b v w enc x) ≡ b
  whitened_long x e = length-xor (enc (xor x (take b v))) (take b w) ∙ p.enc_long _ (length-xor x (take b v) ∙ e)

  inner_block : (x : List ℕ) → Block b x → Block b (xor x (take b v))
  inner_block x h = block-xor b x (take b v) h (bytes-take b v bytes_v)

  whitened_block : (x : List ℕ) → Block b x → Block b (whitened b v w enc x)
  whitened_block x h = block-xor b (enc (xor x (take b v))) (take b w) (p.enc_block _ (inner_block x h)) (bytes-take b w bytes_w)

  whitened_back : (x : List ℕ) → Block b x → whitened b w v dec (whitened b v w enc x) ≡ x
  whitened_back x h =
      let y = xor x (take b v) in
      ap (λ z. xor (dec z) (take b v)) (xor_twice (enc y) (take b w)) ∙ ap (λ z. xor z (take b v)) (p.dec_enc y (inner_block x h)) ∙ xor_twice x (take b v)

pub whitened_permutes : (b : ℕ) (first last : List ℕ) (enc dec : List ℕ → List ℕ) → Permutes b enc dec
    → ((k : ℕ) → slice_index first k < 256) → ((k : ℕ) → slice_index last k < 256)
    → Permutes b (whitened b first last enc) (whitened b last first dec)
whitened_permutes b first last enc dec p of_first of_last =
    let q = inverse_permutes b enc dec p in
    let f = bytes_from first of_first in
    let l = bytes_from last of_last in
    record {
      enc_long = whitened_long b first last enc dec p f l;
      dec_long = whitened_long b last first dec enc q l f;
      enc_block = whitened_block b first last enc dec p f l;
      dec_block = whitened_block b last first dec enc q l f;
      dec_enc = whitened_back b first last enc dec p f l;
      enc_dec = whitened_back b last first dec enc q l f;
    }

-- ---- one after the other
pub cascade_permutes : (b : ℕ) (enc dec enc' dec' : List ℕ → List ℕ) → Permutes b enc dec → Permutes b enc' dec'
    → Permutes b (λ x. enc (enc' x)) (λ x. dec' (dec x))
cascade_permutes b enc dec enc' dec' p q = record {
  enc_long = λ x e. p.enc_long _ (q.enc_long x e);
  dec_long = λ x e. q.dec_long _ (p.dec_long x e);
  enc_block = λ x h. p.enc_block _ (q.enc_block x h);
  dec_block = λ x h. q.dec_block _ (p.dec_block x h);
  dec_enc = λ x h. ap dec' (p.dec_enc _ (q.enc_block x h)) ∙ q.dec_enc x h;
  enc_dec = λ x h. ap enc (q.enc_dec _ (p.dec_block x h)) ∙ p.enc_dec x h;
}
