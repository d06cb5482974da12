-- Texts of ASCII.
use Rattle.std.proofs.Common.{◌≡◌, ℕ, ◌<◌, List, Bool, true, false, ◌&&◌, IsTrue, IsUtf8, arith}
use Rattle.std.specs.List.{All, list_all}
use Rattle.std.proofs.lemmas.Bool.Decides.{nat_tests}
use Rattle.std.proofs.lemmas.List.Elements.{All-weaker}
use Rattle.std.proofs.lemmas.List.Sums.{AllPass-from_list_all}
use Rattle.std.specs.Str.{is_utf8}
use Rattle.std.proofs.lemmas.Str.{IsUtf8-from_ascii, is_utf8-from_IsUtf8}
use Rattle.std.proofs.lemmas.Str.Ascii.{IsAscii-from_all}
use Rattle.httparse.specs.Grammar.{is_token_byte, IsToken}
use Rattle.httparse.specs.Spans.{span_bytes, IsRequestOf}
use Rattle.httparse.specs.declared.spans.HeaderSpan.{HeaderSpan}
use Rattle.httparse.specs.declared.spans.RequestSpans.{RequestSpans}
use Rattle.an_base.specs.Token.{is_token_sign, is_token}

-- bytes of which each passes a test that ASCII alone passes
utf8_by : (test : ℕ → Bool) → ((b : ℕ) → test b ≡ true → b < 128) → (bytes : List ℕ)
    → All (λ b. test b ≡ true) bytes → IsUtf8 bytes
utf8_by test ascii bytes h =
    IsUtf8-from_ascii bytes
    (IsAscii-from_all bytes (All-weaker (λ b. test b ≡ true) (λ b. b < 128) ascii bytes h))

token_byte : (b : ℕ) → is_token_byte b ≡ true → b < 128
unfolding is_token_byte
token_byte b h = grind (arith, nat_tests)

pub IsUtf8-from_token : (bytes : List ℕ) → IsToken bytes → IsUtf8 bytes
IsUtf8-from_token bytes h = utf8_by is_token_byte token_byte bytes h.1

token_sign : (b : ℕ) → is_token_sign b ≡ true → b < 128
token_sign b h = grind (arith, nat_tests)

pub IsUtf8-from_signs : (bytes : List ℕ) → list_all is_token_sign bytes ≡ true → IsUtf8 bytes
IsUtf8-from_signs bytes h =
    utf8_by is_token_sign token_sign bytes (AllPass-from_list_all is_token_sign bytes h)

-- the method and the target of a head are texts
pub request_texts : (buf : List ℕ) (headers : List HeaderSpan) (r : RequestSpans)
    → IsRequestOf buf headers r
    → IsTrue (is_utf8 (span_bytes buf r.method)) × IsTrue (is_utf8 (span_bytes buf r.path))
request_texts buf headers r (h, is) = (
  rw is.method (is_utf8-from_IsUtf8 h.method (IsUtf8-from_token h.method is.reads.0.method)),
  rw is.path (is_utf8-from_IsUtf8 h.target is.reads.0.target_text),
)

-- the signs of a token are a text
pub signs_text : (bytes : List ℕ) → is_token bytes ≡ true → IsTrue (is_utf8 bytes)
signs_text bytes h = is_utf8-from_IsUtf8 bytes (IsUtf8-from_signs bytes (and_last _ _ h))
  where
    and_last : (a b : Bool) → (a && b) ≡ true → b ≡ true
    and_last true b h = h
    and_last false b h = cc
