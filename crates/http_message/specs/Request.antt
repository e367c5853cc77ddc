-- The request for a link (RFC 9112, section 3; RFC 9110, sections 7.2, 12.5.1 and 12.5.3).
use Rattle.std.specs.Prelude.{ℕ, List, [], ◌++◌, codes, decimal, Bool, ◌==◌, if◌then◌else◌}
use Rattle.link_uri.specs.declared.link.Link.{Link}

-- what is asked for: the target of the link, or its whole text where a proxy is asked
abbrev pub target_of : Link → Bool → List ℕ
target_of link via = if via then link.text else link.target

-- the port with its colon, and nothing where it is 80
abbrev pub port_of : Link → List ℕ
port_of link = if link.port == 80 then [] else codes ":" ++ decimal link.port

-- the first line
unfoldable pub line_text : Link → Bool → List ℕ
line_text link via = codes "GET " ++ (target_of link via ++ codes " HTTP/1.1\r\n")

-- the host, with the port where it isn't 80
unfoldable pub host_text : Link → List ℕ
host_text link = codes "Host: " ++ (link.host ++ port_of link)

-- the media types that are read, no coding, no further request on the connection, and the empty line
unfoldable pub wishes_text : List ℕ
wishes_text = codes "\r\nAccept: text/turtle, application/n-triples;q=0.9\r\nAccept-Encoding: identity\r\nConnection: close\r\n\r\n"

-- the request, which has no body
abbrev pub request_text : Link → Bool → List ℕ
request_text link via = line_text link via ++ (host_text link ++ wishes_text)
